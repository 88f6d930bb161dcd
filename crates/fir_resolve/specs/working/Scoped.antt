-- The code's scope, and what stands before a place of the text.
use Rattle.std.specs.Prelude.{◌≡◌, ℕ, ◌≤◌, List, Bool, false, Option, Some, None, is_some, length, option_map, slice_get}
use Rattle.fir_ast.specs.declared.fault.FirFault.{FirFault}
use Rattle.fir_ast.specs.Statements.{PlacedName}
use Rattle.fir_ast.specs.working.CodeFaults.{fault_of}
use Rattle.fir_pass.specs.Groups.{first_of}
use Rattle.fir_meaning.specs.Components.{Declarations, find}
use Rattle.fir_meaning.specs.Visibility.{Before}
use Rattle.fir_meaning.specs.Mentions.{Mention}
use Rattle.fir_meaning.specs.NameGroups.{faults_in}
use Rattle.fir_names.specs.declared.declaration.Declaration.{Declaration as Entry}
use Rattle.fir_resolve.specs.declared.scope.Scope.{Scope}
use Rattle.fir_names.specs.working.Tabulated.{Tabulates, found}
use Rattle.fir_resolve.specs.working.Opened.{is_open, open_from}

abbrev pub is_open_entry : List ℕ → Option Entry → Bool
is_open_entry opened None = false
is_open_entry opened (Some e) = is_open opened e.position e.depth

abbrev pub is_seen : Scope → List ℕ → Bool
is_seen scope name = is_open_entry scope.opened.items (found scope.names name)

-- the scope sees what is visible
pub record Sees (scope : Scope) (visible : Declarations) : Type 0 where
  pub each : (n : List ℕ) → is_seen scope n ≡ is_some (find visible n)

-- the scope has what is declared and what is visible before a place, and no open block begins behind it
pub record Walks (modules : List PlacedName) (scope : Scope) (before : Before) : Type 0 where
  pub declared : Tabulates modules scope.names before.declared
  pub visible : before.visible ≡ open_from scope.opened.items 0 before.declared
  pub depth : before.depth ≡ length scope.opened.items
  pub begun : (k start : ℕ) → slice_get scope.opened.items k ≡ Some start → start ≤ length before.declared

-- what a walk over mentions finds: their first fault, or none, and then the scope has what stands behind them, and the same blocks are open
pub record Passes (modules : List PlacedName) (old new : Scope) (mentions : List Mention) (after : Before) (f : Option FirFault) : Type 0 where
  pub first : option_map fault_of f ≡ first_of (faults_in mentions)
  pub walked : f ≡ None → Walks modules new after
  pub still_open : f ≡ None → new.opened.items ≡ old.opened.items
