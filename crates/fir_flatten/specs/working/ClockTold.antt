-- The first fault of clocks of a design (E25), by the leaves of the copies of its modules (FIRRTL spec, "Clock Type", "Instances"). A leaf shows it with its two
-- places by its module alone, behind what stands before the paths of the copy's leaves. The first is that at the first place; of the same place that of the first
-- copy, and there that of the first leaf.
use Rattle.std.specs.Prelude.{◌≡◌, ◌⊎◌, ℕ, ◌<◌, List, [], ◌∷◌, ◌++◌, flat_map, length, map, false, Option, Some, None, slice_get}
use Rattle.fir_ast.specs.declared.place.Place.{Place}
use Rattle.fir_ast.specs.Circuits.{CircuitTree}
use Rattle.fir_ast.specs.Faults.{Fault}
use Rattle.fir_meaning.specs.LeafTypes.{a_clock}
use Rattle.fir_meaning.specs.ModuleScenes.{Scene}
use Rattle.fir_meaning.specs.SourceClocks as source
use Rattle.fir_meaning.specs.SourceClocks.{TellsClockFault, clock_fault}
use Rattle.fir_meaning.specs.SourceDesigns.{SourceDesign}
use Rattle.fir_meaning.specs.SourceRanks.{Rank, comes_before}
use Rattle.fir_meaning.specs.working.Choices.{Live}
use Rattle.fir_meaning.specs.working.Designs.{Design}
use Rattle.fir_meaning.specs.working.LeafCircuits.{LeafCircuit, role_of}
use Rattle.fir_meaning.specs.working.LeafModules.{leaf_at, sink}
use Rattle.fir_meaning.specs.working.LeafNames.{place_of_leaf}
use Rattle.fir_meaning.specs.working.LeafedModules.{leafed_module}
use Rattle.fir_leaf.specs.working.ClockFaults.{IsFirstPlace, clock_path, clock_places, live_places}
use Rattle.fir_leaf.specs.working.ClockRoots.{lives_of}
use Rattle.fir_leaf.specs.working.ModuleCircuits.{module_circuit}
use Rattle.fir_design.specs.working.MeaningLaws.{AreDesigns}
use Rattle.fir_copies.specs.working.Copies.{copies_of}
use Rattle.fir_copies.specs.working.CopyLaws.{HaveWidths}
use Rattle.fir_elaborate.specs.declared.elaborated.ModuleCopy.{ModuleCopy}
use Rattle.fir_elaborate.specs.working.CopyPaths.{paths_below, prefix_text}
use Rattle.fir_elaborate.specs.working.Elaborations.{copy_seen}

-- E25 stands at a leaf with these two places: those of the first index that picks its clock
pub record IsPickedAt (c : LeafCircuit) (x : ℕ) (one other : Place) : Type 0 where
  pub first : IsFirstPlace one (clock_places c x (leaf_at c.leaves x).holds (role_of c x))
  pub twice : other ≡ one

-- or those of the first two live statements
pub record AreTwoLive (c : LeafCircuit) (x : ℕ) (one other : Place) : Type 0 where
  pub is_clock : (leaf_at c.leaves x).holds ≡ a_clock
  pub is_sink : role_of c x ≡ sink
  pub none_picks : flat_map live_places (lives_of c x) ≡ []
  pub first : Live
  pub second : Live
  pub rest : List Live
  pub lives : lives_of c x ≡ first ∷ second ∷ rest
  pub one_is : one ≡ first.place
  pub other_is : other ≡ second.place

abbrev pub ShowsPlaces : LeafCircuit → ℕ → Place → Place → Type 0
ShowsPlaces c x one other = IsPickedAt c x one other ⊎ AreTwoLive c x one other

-- the fault of such a leaf of a circuit, behind what stands before its path
abbrev pub fault_behind : List ℕ → LeafCircuit → ℕ → Place → Place → Fault
fault_behind prefix c x one other = clock_fault (place_of_leaf c x) (prefix ++ clock_path c x (leaf_at c.leaves x).holds) one other

-- so it is with a leaf, which stands at a place, of the module of the copy of a number
pub record IsShownAt (scenes : List Scene) (copies : List ModuleCopy) (i z : ℕ) (p : Place) (f : Fault) : Type 0 where
  pub copy : ModuleCopy
  pub is : slice_get copies i ≡ Some copy
  pub scene : Scene
  pub is_scene : slice_get scenes copy.module_number ≡ Some scene
  pub within : z < length (leafed_module scene).leaves
  pub place : p ≡ place_of_leaf (module_circuit (leafed_module scene)) z
  pub one : Place
  pub other : Place
  pub shows : ShowsPlaces (module_circuit (leafed_module scene)) z one other
  pub told : f ≡ fault_behind copy.prefix (module_circuit (leafed_module scene)) z one other

abbrev pub rank : Place → ℕ → ℕ → Rank
rank p i z = record { place = p; holder = i; leaf = z }

pub record IsFirstShown (scenes : List Scene) (copies : List ModuleCopy) (f : Fault) : Type 0 where
  pub copy : ℕ
  pub leaf : ℕ
  pub place : Place
  pub shown : IsShownAt scenes copies copy leaf place f
  pub first : (i z : ℕ) (p : Place) (g : Fault) → IsShownAt scenes copies i z p g → comes_before (rank p i z) (rank place copy leaf) ≡ false

-- the first fault, or none
abbrev pub IsToldOf : List Scene → List ModuleCopy → Option Fault → Type 0
IsToldOf scenes copies None = (i z : ℕ) (p : Place) (f : Fault) → IsShownAt scenes copies i z p f → ⊥
IsToldOf scenes copies (Some f) = IsFirstShown scenes copies f

-- that of the source
abbrev pub IsToldOfSource : SourceDesign → Option Fault → Type 0
IsToldOfSource t None = (f : Fault) → source.ShowsClockFault t f → ⊥
IsToldOfSource t (Some f) = TellsClockFault t f

-- in each sound design of a circuit without a fault of names or types, of which these are the copies, and where all modules have the circuit's widths
abbrev pub FirstIsTold : Type 0
FirstIsTold =
    (c : CircuitTree) (d : Design) (t : SourceDesign) (a : AreDesigns c d t) (x : ℕ) (copies : List ModuleCopy) (f : Option Fault)
    → slice_get a.scenes x ≡ Some a.main → HaveWidths c a.scenes → map copy_seen copies ≡ copies_of x d
    → map (λ (k : ModuleCopy). k.prefix) copies ≡ map prefix_text (paths_below [] d) → IsToldOf a.scenes copies f → IsToldOfSource t f
