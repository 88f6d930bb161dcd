-- Where the modules of a design stand in its circuit with their leaves and their arrays, and that each leaf is given its value by one of them as that module
-- gives it (FIRRTL spec, "Instances", "Memories", "Last Connect Semantics").
use Rattle.std.specs.Prelude.{◌≡◌, ◌⊎◌, ℕ, ◌+◌, ◌<◌, ◌≤◌, List, ◌++◌, length, Some, slice_get}
use Rattle.fir_base.specs.Lists.{In}
use Rattle.fir_ast.specs.Circuits.{CircuitTree}
use Rattle.fir_meaning.specs.LeafPaths.{LeafPath}
use Rattle.fir_meaning.specs.ModuleScenes.{Scene}
use Rattle.fir_meaning.specs.SourceDesigns.{SourceDesign}
use Rattle.fir_meaning.specs.WidthRules.{AreWidths}
use Rattle.fir_meaning.specs.working.Designs.{Design}
use Rattle.fir_meaning.specs.working.FlatLeaves.{placed_array}
use Rattle.fir_meaning.specs.working.Flattened.{flattened}
use Rattle.fir_meaning.specs.working.LeafCircuits.{LeafCircuit}
use Rattle.fir_meaning.specs.working.LeafModules.{LeafArray, LeafModule, leaf_at, role_at, source}
use Rattle.fir_meaning.specs.working.LeafedModules.{leafed_module}
use Rattle.fir_meaning.specs.working.Numberings.{Numbering, number, numbering}
use Rattle.fir_leaf_types.specs.working.TypedModules.{held_in}
use Rattle.fir_connect.specs.working.MovedTerms.{moved_net_role}
use Rattle.fir_connect.specs.working.NetRoles.{net_role_at}
use Rattle.fir_design.specs.working.MeaningLaws.{AreDesigns}
use Rattle.fir_connect.specs.working.CircuitModules.{as_module}
use Rattle.fir_copies.specs.working.Copies.{Copy, copies_of}

-- all scenes have the widths of the circuit
abbrev pub HaveWidths : CircuitTree → List Scene → Type 0
HaveWidths c scenes = (s : Scene) → In scenes s → AreWidths c s.widths

abbrev pub numbers_of : LeafModule → Copy → Numbering
numbers_of m k = numbering m k.first k.own

-- the module of a copy, by its scene: its leaves stand at their numbers, with their paths behind that of the instance and with what they hold; what is no
-- source in the module has the role that its module gives it, moved; and its arrays stand at their numbers, placed
pub record StandsIn (scenes : List Scene) (c : LeafCircuit) (k : Copy) : Type 0 where
  pub scene : Scene
  pub is : slice_get scenes k.module_number ≡ Some scene
  pub ports : (leafed_module scene).port_leaves ≤ length (leafed_module scene).leaves
  pub path : LeafPath
  pub within : (x : ℕ) → x < length (leafed_module scene).leaves → number (numbers_of (leafed_module scene) k) x < length c.leaves
  pub paths :
      (x : ℕ) → x < length (leafed_module scene).leaves
      → (leaf_at c.leaves (number (numbers_of (leafed_module scene) k) x)).path ≡ path ++ (leaf_at (leafed_module scene).leaves x).path
  pub places :
      (x : ℕ) → (leafed_module scene).port_leaves ≤ x → x < length (leafed_module scene).leaves
      → (leaf_at c.leaves (number (numbers_of (leafed_module scene) k) x)).place ≡ (leaf_at (leafed_module scene).leaves x).place
  pub held :
      (x : ℕ) → x < length (leafed_module scene).leaves
      → held_in (as_module c) (number (numbers_of (leafed_module scene) k) x) ≡ held_in (leafed_module scene) x
  pub roles :
      (x : ℕ) → x < length (leafed_module scene).leaves → (role_at (leafed_module scene) x ≡ source → ⊥)
      → net_role_at (as_module c) (number (numbers_of (leafed_module scene) k) x)
      ≡ moved_net_role (numbers_of (leafed_module scene) k) k.array (net_role_at (leafed_module scene) x)
  pub arrays_within : k.array + length (leafed_module scene).arrays ≤ length c.arrays
  pub arrays :
      (i : ℕ) (a : LeafArray) → slice_get (leafed_module scene).arrays i ≡ Some a
      → slice_get c.arrays (k.array + i) ≡ Some (placed_array path (numbers_of (leafed_module scene) k) a)

-- a leaf of the circuit is one of a copy, and no source there; or it is an input of the main module
pub record IsGivenBy (scenes : List Scene) (k : Copy) (y : ℕ) : Type 0 where
  pub scene : Scene
  pub is : slice_get scenes k.module_number ≡ Some scene
  pub leaf : ℕ
  pub within : leaf < length (leafed_module scene).leaves
  pub number_is : number (numbers_of (leafed_module scene) k) leaf ≡ y
  pub gives : role_at (leafed_module scene) leaf ≡ source → ⊥

pub record IsMainInput (main : LeafModule) (y : ℕ) : Type 0 where
  pub port : y < main.port_leaves
  pub is_source : role_at main y ≡ source

abbrev pub IsGiven : List Scene → Scene → List Copy → ℕ → Type 0
IsGiven scenes main copies y = IsMainInput (leafed_module main) y ⊎ ((k : Copy) × In copies k × IsGivenBy scenes k y)

-- in each sound design of a circuit without a fault of names or types, whose main module has that number, where all modules have the circuit's widths
abbrev pub CopiesStand : Type 0
CopiesStand =
    (c : CircuitTree) (d : Design) (t : SourceDesign) (a : AreDesigns c d t) (x : ℕ) → slice_get a.scenes x ≡ Some a.main
    → HaveWidths c a.scenes → (k : Copy) → In (copies_of x d) k → StandsIn a.scenes (flattened d) k

-- each leaf is given its value by a copy, or is an input
abbrev pub CopiesGiveAll : Type 0
CopiesGiveAll =
    (c : CircuitTree) (d : Design) (t : SourceDesign) (a : AreDesigns c d t) (x : ℕ) → slice_get a.scenes x ≡ Some a.main
    → (y : ℕ) → y < length (flattened d).leaves → IsGiven a.scenes a.main (copies_of x d) y
