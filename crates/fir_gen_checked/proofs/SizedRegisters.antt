-- The widths behind so many registers of the circuit under each name, and in each statement: all are written.
use Rattle.std.proofs.Common.{◌≡◌, ℕ, zero, suc, ◌+◌, ◌-◌, ◌^◌, ◌<◌, ◌≤◌, List, [], ◌∷◌, ◌++◌, map, Bool, true, false, if◌then◌else◌, Some, refl, sym, ap, ◌∙◌, arith}
use Rattle.std.specs.Prelude.{codes}
use Rattle.std.specs.Str.{bytes_eq}
use Rattle.std.proofs.lemmas.List.{map-append}
use Rattle.fir_ast.specs.declared.place.Place.{Place}
use Rattle.fir_ast.specs.Statements.{Statement}
use Rattle.fir_ast.specs.Circuits.{ModuleTree}
use Rattle.fir_meaning.specs.Components.{Declaration, Declarations, find}
use Rattle.fir_meaning.specs.Visibility.{Before, behind}
use Rattle.fir_meaning.specs.WidthExpressions.{known}
use Rattle.fir_meaning.specs.SizedTypes.{Sized, scalar, unsigned, clock_scalar}
use Rattle.fir_meaning.specs.SizedScopes.{SizedName, sized_in}
use Rattle.fir_meaning.specs.SizedDeclarations.{Numbering, NumberedModule, numbered_with, numbered_behind, sized_at, sized_component}
use Rattle.fir_gen.specs.GenText.{register_name}
use Rattle.fir_gen.specs.working.GenTree.{first_connect, last_connect, register_at, step_when}
use Rattle.fir_gen_checked.proofs.BodyWalk.{OfEach}
use Rattle.fir_gen_checked.proofs.DeclaredRegisters.{before_at, behind_head, declared_behind, port_found, register_declared, register_found}

-- the numbers before the first module
abbrev pub numbers_from : ℕ → ℕ → Numbering
numbers_from port next = record { port = port; next = next; scope = [] }

-- what a declaration is, whose widths are written
abbrev as_written : Declaration → SizedName
as_written d = record { name = d.named.name; sized = sized_component [] (numbers_from 0 0) d.named.place d.component }

sized_found : (ds : Declarations) (name : List ℕ) (d : Declaration) → find ds name ≡ Some d → sized_in (map as_written ds) name ≡ (as_written d).sized
sized_found [] name d h = absurd (cc)
sized_found (x ∷ ds) name d h = by (bytes_eq x.named.name name) h (sized_found ds name d)
  where
    by : (is_so : Bool) → (if is_so then Some x else find ds name) ≡ Some d
        → (find ds name ≡ Some d → sized_in (map as_written ds) name ≡ (as_written d).sized)
        → (if is_so then (as_written x).sized else sized_in (map as_written ds) name) ≡ (as_written d).sized
    by true e further = let same : x ≡ d = cc in ap (λ y. (as_written y).sized) same
    by false e further = further e

-- one more declaration
numbered_last : (modules : List ModuleTree) (numbers : Numbering) (ds : Declarations) (d : Declaration)
    → numbered_behind modules numbers (ds ++ d ∷ []) ≡ numbered_with modules (numbered_behind modules numbers ds) d
numbered_last modules numbers [] d = refl
numbered_last modules numbers (x ∷ ds) d = numbered_last modules (numbered_with modules numbers x) ds d

-- 16 bits
abbrev word : Sized
word = scalar unsigned (known 16)

-- Q of each form of a statement, where the names in it have their widths
pub record WhereSized (at : ℕ → ℕ → Place) (m : NumberedModule) (Q : Before → Statement → Type 0) : Type 0 where
  pub a_register : (before : Before) (k : ℕ) → k ≤ 4096 → sized_in (sized_at m before) (codes "clock") ≡ scalar clock_scalar (known 0)
      → sized_in (sized_at m (behind before (register_at at k))) (codes "reset") ≡ scalar unsigned (known 1) → Q before (register_at at k)
  pub the_first : (before : Before) → sized_in (sized_at m before) (register_name 0) ≡ word → sized_in (sized_at m before) (codes "x") ≡ word
      → Q before (first_connect at)
  pub a_step : (before : Before) (j : ℕ) → sized_in (sized_at m before) (codes "x") ≡ word → sized_in (sized_at m before) (register_name j) ≡ word
      → sized_in (sized_at m before) (register_name (j + 1)) ≡ word → Q before (step_when at j)
  pub the_last : (before : Before) (n : ℕ) → sized_in (sized_at m before) (codes "y") ≡ word
      → sized_in (sized_at m before) (register_name (n - 1)) ≡ word → Q before (last_connect at n)

module _ (at : ℕ → ℕ → Place) (modules : List ModuleTree) (inside : ModuleTree) (port next : ℕ) where
  abbrev pub first_module : NumberedModule
  first_module = record { modules = modules; inside = inside; start = numbers_from port next }

  sized_is : (j : ℕ) → sized_at first_module (before_at at j) ≡ map as_written (declared_behind at j)
  sized_is zero = refl
  sized_is (suc j) =
      ap (λ (numbers : Numbering). numbers.scope) (numbered_last modules (numbers_from port next) (declared_behind at j) (register_declared at (suc j)))
      ∙ ap (λ scope. scope ++ as_written (register_declared at (suc j)) ∷ []) (sized_is j)
      ∙ sym (map-append as_written (declared_behind at j) (register_declared at (suc j) ∷ []))

  declared_sized : (j : ℕ) (name : List ℕ) (d : Declaration) → find (declared_behind at j) name ≡ Some d
      → sized_in (sized_at first_module (before_at at j)) name ≡ (as_written d).sized
  declared_sized j name d h = ap (λ scope. sized_in scope name) (sized_is j) ∙ sized_found (declared_behind at j) name d h

  port_sized : (j : ℕ) (name : List ℕ) (d : Declaration) → find (behind_head at).declared name ≡ Some d
      → sized_in (sized_at first_module (before_at at j)) name ≡ (as_written d).sized
  port_sized j name d h = declared_sized j name d (port_found at j name d h)

  clock_sized : (j : ℕ) → sized_in (sized_at first_module (before_at at j)) (codes "clock") ≡ scalar clock_scalar (known 0)
  clock_sized j = port_sized j (codes "clock") _ refl

  reset_sized : (j : ℕ) → sized_in (sized_at first_module (before_at at j)) (codes "reset") ≡ scalar unsigned (known 1)
  reset_sized j = port_sized j (codes "reset") _ refl

  input_sized : (j : ℕ) → sized_in (sized_at first_module (before_at at j)) (codes "x") ≡ word
  input_sized j = port_sized j (codes "x") _ refl

  output_sized : (j : ℕ) → sized_in (sized_at first_module (before_at at j)) (codes "y") ≡ word
  output_sized j = port_sized j (codes "y") _ refl

  register_sized : (j k : ℕ) → k ≤ j → k < 2 ^ 64 → sized_in (sized_at first_module (before_at at j)) (register_name k) ≡ word
  register_sized j k le small = declared_sized j (register_name k) (register_declared at k) (register_found at j k le small)

  pub all_sized : (Q : Before → Statement → Type 0) → WhereSized at first_module Q → (n : ℕ) → 1 ≤ n → n ≤ 4096 → OfEach at Q n
  all_sized Q h n some small = record {
    first_register = h.a_register (behind_head at) 0 (omega arith) refl refl;
    first_drive = h.the_first (before_at at 0) (register_sized 0 0 (omega arith) (omega arith)) (input_sized 0);
    next_register = λ j less. h.a_register (before_at at j) (suc j) (omega arith) (clock_sized j) (reset_sized (suc j));
    next_drive = λ j less.
        h.a_step (before_at at (suc j)) j (input_sized (suc j)) (register_sized (suc j) j (omega arith) (omega arith))
        (register_sized (suc j) (j + 1) (omega arith) (omega arith));
    last_drive = h.the_last (before_at at (n - 1)) n (output_sized (n - 1)) (register_sized (n - 1) (n - 1) (omega arith) (omega arith));
  }
