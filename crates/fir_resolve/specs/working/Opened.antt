-- Which declarations are visible, by where the blocks that are open begin.
-- For each when round a place stands how many declarations came before its open block.
use Rattle.std.specs.Prelude.{◌≡◌, ℕ, zero, suc, List, [], ◌∷◌, ◌++◌, slice_get, Bool, true, false, nat_le, if◌then◌else◌, Option, Some, None}
use Rattle.fir_meaning.specs.Components.{Declarations}
use Rattle.fir_resolve.specs.declared.scope.Scope.{Scope}
use Rattle.fir_names.specs.working.Tabulated.{entry_count}

abbrev pub begins_by : Option ℕ → ℕ → Bool
begins_by None position = false
begins_by (Some start) position = nat_le start position

-- whether the block of a declaration is open
abbrev pub is_open : List ℕ → ℕ → ℕ → Bool
is_open opened position zero = true
is_open opened position (suc depth) = begins_by (slice_get opened depth) position

-- the declarations, behind so many, whose blocks are open
abbrev pub open_from : List ℕ → ℕ → Declarations → Declarations
open_from opened position [] = []
open_from opened position (d ∷ ds) =
    if is_open opened position d.depth then d ∷ open_from opened (suc position) ds else open_from opened (suc position) ds

-- a block is opened, or the last one closed
pub record Opens (old new : Scope) : Type 0 where
  pub names : new.names ≡ old.names
  pub opened : new.opened.items ≡ old.opened.items ++ entry_count old.names ∷ []

pub record Closes (old new : Scope) : Type 0 where
  pub names : new.names ≡ old.names
  pub closed : (front : List ℕ) (start : ℕ) → old.opened.items ≡ front ++ start ∷ [] → new.opened.items ≡ front
