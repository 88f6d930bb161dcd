-- What is known behind so many registers of the circuit under each name, and of each statement.
use Rattle.std.proofs.Common.{◌≡◌, ℕ, zero, suc, ◌+◌, ◌-◌, ◌^◌, ◌<◌, ◌≤◌, List, [], ◌∷◌, ◌++◌, map, Bool, true, false, if◌then◌else◌, Some, refl, sym, ap, ◌∙◌, arith}
use Rattle.std.specs.Prelude.{codes}
use Rattle.std.specs.Str.{bytes_eq}
use Rattle.std.proofs.lemmas.List.{map-append}
use Rattle.fir_ast.specs.declared.place.Place.{Place}
use Rattle.fir_ast.specs.Types.{DataType, uint, clock}
use Rattle.fir_ast.specs.Statements.{Statement}
use Rattle.fir_ast.specs.Circuits.{ModuleTree}
use Rattle.fir_meaning.specs.Components.{Declaration, Declarations, find}
use Rattle.fir_meaning.specs.Flows.{Flow, source, sink, both}
use Rattle.fir_meaning.specs.Visibility.{Before, behind}
use Rattle.fir_meaning.specs.TypedScopes.{Known, TypedScope, known}
use Rattle.fir_meaning.specs.ComponentTypes.{known_as, typed_scope}
use Rattle.fir_meaning.specs.TypeGroup.{scope_at}
use Rattle.fir_meaning.proofs.KnownNames.{typed_more}
use Rattle.fir_gen.specs.GenText.{register_name}
use Rattle.fir_gen.specs.working.GenTree.{first_connect, last_connect, register_at, step_when, word_type}
use Rattle.fir_gen_checked.proofs.BodyWalk.{OfEach}
use Rattle.fir_gen_checked.proofs.DeclaredRegisters.{before_at, behind_head, declared_behind, port_found, register_declared, register_found}

-- what a declaration is known as, whose type is written
abbrev pub as_written : Declaration → Known
as_written d = known_as [] [] d

known_found : (ds : Declarations) (name : List ℕ) (d : Declaration) → find ds name ≡ Some d → known (map as_written ds) name ≡ Some (as_written d)
known_found [] name d h = absurd (cc)
known_found (x ∷ ds) name d h = by (bytes_eq x.named.name name) h (known_found ds name d)
  where
    by : (is_so : Bool) → (if is_so then Some x else find ds name) ≡ Some d
        → (find ds name ≡ Some d → known (map as_written ds) name ≡ Some (as_written d))
        → (if is_so then Some (as_written x) else known (map as_written ds) name) ≡ Some (as_written d)
    by true e further = let same : x ≡ d = cc in ap (λ y. Some (as_written y)) same
    by false e further = further e

abbrev pub IsKnown : TypedScope → List ℕ → Flow → DataType → Type 0
IsKnown scope name flow t = known scope name ≡ Some (record { name = name; flow = flow; data_type = Some t })

module _ (at : ℕ → ℕ → Place) (modules : List ModuleTree) where
  pub typed_is : (j : ℕ) → typed_scope modules (declared_behind at j) ≡ map as_written (declared_behind at j)
  typed_is zero = refl
  typed_is (suc j) =
      typed_more modules [] (declared_behind at j) (register_declared at (suc j))
      ∙ ap (λ scope. scope ++ as_written (register_declared at (suc j)) ∷ []) (typed_is j)
      ∙ sym (map-append as_written (declared_behind at j) (register_declared at (suc j) ∷ []))

  declared_known : (j : ℕ) (name : List ℕ) (d : Declaration) → find (declared_behind at j) name ≡ Some d
      → known (scope_at modules (before_at at j)) name ≡ Some (as_written d)
  declared_known j name d h = ap (λ scope. known scope name) (typed_is j) ∙ known_found (declared_behind at j) name d h

  port_known : (j : ℕ) (name : List ℕ) (d : Declaration) → find (behind_head at).declared name ≡ Some d
      → known (scope_at modules (before_at at j)) name ≡ Some (as_written d)
  port_known j name d h = declared_known j name d (port_found at j name d h)

  clock_known : (j : ℕ) → IsKnown (scope_at modules (before_at at j)) (codes "clock") source clock
  clock_known j = port_known j (codes "clock") _ refl

  reset_known : (j : ℕ) → IsKnown (scope_at modules (before_at at j)) (codes "reset") source (uint (Some 1))
  reset_known j = port_known j (codes "reset") _ refl

  input_known : (j : ℕ) → IsKnown (scope_at modules (before_at at j)) (codes "x") source word_type
  input_known j = port_known j (codes "x") _ refl

  output_known : (j : ℕ) → IsKnown (scope_at modules (before_at at j)) (codes "y") sink word_type
  output_known j = port_known j (codes "y") _ refl

  register_known : (j k : ℕ) → k ≤ j → k < 2 ^ 64 → IsKnown (scope_at modules (before_at at j)) (register_name k) both word_type
  register_known j k le small = declared_known j (register_name k) (register_declared at k) (register_found at j k le small)

  -- Q of each form of a statement, where the names in it are known
  pub record WhereKnown (Q : Before → Statement → Type 0) : Type 0 where
    pub a_register : (before : Before) (k : ℕ) → IsKnown (scope_at modules before) (codes "clock") source clock
        → IsKnown (scope_at modules (behind before (register_at at k))) (codes "reset") source (uint (Some 1)) → Q before (register_at at k)
    pub the_first : (before : Before) → IsKnown (scope_at modules before) (register_name 0) both word_type
        → IsKnown (scope_at modules before) (codes "x") source word_type → Q before (first_connect at)
    pub a_step : (before : Before) (j : ℕ) → IsKnown (scope_at modules before) (codes "x") source word_type
        → IsKnown (scope_at modules before) (register_name j) both word_type → IsKnown (scope_at modules before) (register_name (j + 1)) both word_type
        → Q before (step_when at j)
    pub the_last : (before : Before) (n : ℕ) → IsKnown (scope_at modules before) (codes "y") sink word_type
        → IsKnown (scope_at modules before) (register_name (n - 1)) both word_type → Q before (last_connect at n)

  pub all_known : (Q : Before → Statement → Type 0) → WhereKnown Q → (n : ℕ) → 1 ≤ n → n ≤ 4096 → OfEach at Q n
  all_known Q h n some small = record {
    first_register = h.a_register (behind_head at) 0 refl refl;
    first_drive = h.the_first (before_at at 0) (register_known 0 0 (omega arith) (omega arith)) (input_known 0);
    next_register = λ j less. h.a_register (before_at at j) (suc j) (clock_known j) (reset_known (suc j));
    next_drive = λ j less.
        h.a_step (before_at at (suc j)) j (input_known (suc j)) (register_known (suc j) j (omega arith) (omega arith))
        (register_known (suc j) (j + 1) (omega arith) (omega arith));
    last_drive = h.the_last (before_at at (n - 1)) n (output_known (n - 1)) (register_known (n - 1) (n - 1) (omega arith) (omega arith));
  }
