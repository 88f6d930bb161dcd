-- What the body of a leaf circuit stores over its own types and values, against its design (FIRRTL spec, "Instances").
-- Types and values by path are those of the first leaf of a path; what is no leaf has no bits, the number 0 and no clock.
use Rattle.std.specs.Prelude.{◌≡◌, ℕ, suc, ◌<◌, ◌≤◌, List, [], ◌∷◌, length, if◌then◌else◌, Option, Some, None}
use Rattle.fir_bits.specs.declared.types.NumTy.{NumTy}
use Rattle.fir_meaning.specs.LeafPaths.{LeafPath}
use Rattle.fir_meaning.specs.working.TermValues.{Env, clock_at, clock_of, value_at}
use Rattle.fir_meaning.specs.working.LeafBlocks.{exec_all, nothing_stored}
use Rattle.fir_meaning.specs.working.LeafModules.{LeafDeclared}
use Rattle.fir_meaning.specs.LeafTypes.{no_bits}
use Rattle.fir_meaning.specs.working.LeafCircuits.{LeafCircuit, depth_of, type_of_leaf}
use Rattle.fir_leaf.specs.working.ChoiceLaws.{fitted_at}
use Rattle.fir_meaning.specs.TreeValues.{TypesByPath, ValuesByPath}
use Rattle.fir_meaning.specs.SamePaths.{same_path}
use Rattle.fir_meaning.specs.working.Designs.{Design}
use Rattle.fir_meaning.specs.working.DesignStores.{clock_given, exec_below, number_given}
use Rattle.fir_meaning.specs.PathStores.{nothing_kept}
use Rattle.fir_meaning.specs.working.Flattened.{flattened}
use Rattle.fir_leaf.specs.working.SoundDesigns.{IsMain, circuit_path}
use Rattle.fir_leaf.specs.working.NamedDesigns.{IsNamed}

-- the number of the first leaf of a path, counted from one on
abbrev pub number_of_path : List LeafDeclared → ℕ → LeafPath → Option ℕ
number_of_path [] x path = None
number_of_path (l ∷ ls) x path = if same_path l.path path then Some x else number_of_path ls (suc x) path

abbrev pub type_where : LeafCircuit → Option ℕ → NumTy
type_where c None = no_bits
type_where c (Some x) = type_of_leaf c x

abbrev pub types_by_path : LeafCircuit → TypesByPath
types_by_path c path = type_where c (number_of_path c.leaves 0 path)

abbrev pub values_by_path : LeafCircuit → Env → ValuesByPath
values_by_path c env path = value_at (number_of_path c.leaves 0 path) env.numbers

abbrev pub clocks_by_path : LeafCircuit → Env → LeafPath → Option ℕ
clocks_by_path c env path = clock_at (number_of_path c.leaves 0 path) env.clocks

-- what is no leaf has the number 0 and no clock
pub record IsOfLeaves (c : LeafCircuit) (env : Env) : Type 0 where
  pub numbers : (x : ℕ) → length c.leaves ≤ x → env.numbers x ≡ 0
  pub clocks : (x : ℕ) → length c.leaves ≤ x → env.clocks x ≡ None

-- the circuit's body stores at each leaf the number that the design stores there over the same types and values, or nothing
abbrev pub SameCircuitStores : Type 0
SameCircuitStores =
    (d : Design) (env : Env) → IsMain d → IsNamed d → IsOfLeaves (flattened d) env → (x : ℕ) → x < length (flattened d).leaves
    → exec_all (type_of_leaf (flattened d)) (depth_of (flattened d)) env.numbers (fitted_at (type_of_leaf (flattened d)) env.numbers)
    (flattened d).body [] nothing_stored x
    ≡ exec_below (types_by_path (flattened d)) (values_by_path (flattened d) env)
    (number_given (types_by_path (flattened d)) (values_by_path (flattened d) env)) [] d nothing_kept (circuit_path (flattened d) x)

-- and the clock
abbrev pub SameCircuitClocks : Type 0
SameCircuitClocks =
    (d : Design) (env : Env) → IsMain d → IsNamed d → IsOfLeaves (flattened d) env → (x : ℕ) → x < length (flattened d).leaves
    → exec_all (type_of_leaf (flattened d)) (depth_of (flattened d)) env.numbers (λ y t. clock_of (type_of_leaf (flattened d)) env t)
    (flattened d).body [] nothing_stored x
    ≡ exec_below (types_by_path (flattened d)) (values_by_path (flattened d) env)
    (clock_given (types_by_path (flattened d)) (values_by_path (flattened d) env) (clocks_by_path (flattened d) env)) [] d nothing_kept
    (circuit_path (flattened d) x)
