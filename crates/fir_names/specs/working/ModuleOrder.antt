-- Orders of a circuit's modules, in which each stands behind those that it has instances of (FIRRTL spec, "Instances").
-- A module is known by its number, from 0 on in the order of the text.
use Rattle.std.specs.Prelude.{◌≡◌, ℕ, ◌+◌, ◌<◌, List, [], ◌∷◌, length, slice_get, if◌then◌else◌, Option, Some, None, option_map}
use Rattle.std.specs.Str.{bytes_eq}
use Rattle.fir_base.specs.Lists.{In}
use Rattle.fir_ast.specs.Statements.{PlacedName}
use Rattle.fir_ast.specs.Circuits.{ModuleTree, CircuitTree}
use Rattle.fir_meaning.specs.Components.{Declaration}
use Rattle.fir_meaning.specs.Components as component
use Rattle.fir_meaning.specs.Visibility.{declarations}
use Rattle.fir_meaning.specs.Mentions.{module_names}

-- the number of the first of a name
abbrev pub find_number : List PlacedName → List ℕ → Option ℕ
find_number [] name = None
find_number (n ∷ ns) name = if bytes_eq n.name name then Some 0 else option_map (λ k. k + 1) (find_number ns name)

-- the module of that number stands before the place
pub record StandsBefore (order : List ℕ) (place number : ℕ) : Type 0 where
  pub at : ℕ
  pub before : at < place
  pub is : slice_get order at ≡ Some number

pub record IsModuleOrder (c : CircuitTree) (order : List ℕ) : Type 0 where
  pub only : (i v : ℕ) → slice_get order i ≡ Some v → v < length c.modules
  pub once : (i j v : ℕ) → slice_get order i ≡ Some v → slice_get order j ≡ Some v → i ≡ j
  pub all : (v : ℕ) → v < length c.modules → (i : ℕ) × (slice_get order i ≡ Some v)
  pub behind :
      (i v : ℕ) (m : ModuleTree) (d : Declaration) (name : List ℕ) → slice_get order i ≡ Some v → slice_get c.modules v ≡ Some m
      → In (declarations m) d → d.component ≡ component.instance name
      → (w : ℕ) × (find_number (module_names c) name ≡ Some w) × StandsBefore order i w
