-- The first of the leaves of the copies of a design whose clock is unclear, and how the code tells of it (FIRRTL spec, "Clock Type", "Instances").
use Rattle.std.specs.Prelude.{◌≡◌, ◌⊎◌, ℕ, ◌<◌, List, length, false, Option, Some, None, option_map, slice_get}
use Rattle.fir_base.specs.Lists.{In}
use Rattle.fir_ast.specs.declared.place.Place.{Place}
use Rattle.fir_ast.specs.declared.fault.FirFault.{FirFault}
use Rattle.fir_ast.specs.working.CodeFaults.{fault_of}
use Rattle.fir_meaning.specs.ModuleScenes.{Scene}
use Rattle.fir_meaning.specs.SourceRanks.{comes_before}
use Rattle.fir_meaning.specs.working.LeafModules.{LeafModule, leaf_at, role_at}
use Rattle.fir_meaning.specs.working.LeafNames.{component_of_leaf}
use Rattle.fir_meaning.specs.working.LeafedModules.{leafed_module}
use Rattle.fir_meaning.specs.working.UndrivenLeaves.{AreDriven}
use Rattle.fir_leaf.specs.working.ModuleCircuits.{module_circuit}
use Rattle.fir_leaf_types.specs.working.TypedModules.{IsModuleTyped}
use Rattle.fir_elaborate.specs.declared.elaborated.ModuleCopy.{ModuleCopy}
use Rattle.fir_flatten.specs.declared.clock_faults.Site.{Site}
use Rattle.fir_flatten.specs.declared.design_net.ModulePart.{ModulePart}
use Rattle.fir_flatten.specs.working.ClearClocks.{HasClockBehind, IsUnclear}
use Rattle.fir_flatten.specs.working.ClockTold.{IsShownAt, IsToldOf, rank}
use Rattle.fir_flatten.specs.working.DesignNets.{ArePartsOf}

-- a leaf, which stands at a place, of the copy of a number
pub record IsUnclearAt (scenes : List Scene) (copies : List ModuleCopy) (i z : ℕ) (p : Place) : Type 0 where
  pub copy : ModuleCopy
  pub is : slice_get copies i ≡ Some copy
  pub scene : Scene
  pub is_scene : slice_get scenes copy.module_number ≡ Some scene
  pub within : z < length (leafed_module scene).leaves
  pub unclear : IsUnclear (leafed_module scene) z
  pub place : p ≡ (leaf_at (leafed_module scene).leaves z).place

-- a leaf of a copy before the one of a number, or one of its leaves before another
abbrev pub IsAhead : ℕ → ℕ → ℕ → ℕ → Type 0
IsAhead j w i z = (j < i) ⊎ ((j ≡ i) × (w < z))

-- of those ahead the first
pub record IsFirstSite (scenes : List Scene) (copies : List ModuleCopy) (i z : ℕ) (s : Site) : Type 0 where
  pub unclear : IsUnclearAt scenes copies s.copy s.leaf s.place
  pub ahead : IsAhead s.copy s.leaf i z
  pub first :
      (j w : ℕ) (p : Place) → IsAhead j w i z → IsUnclearAt scenes copies j w p
      → comes_before (rank p j w) (rank s.place s.copy s.leaf) ≡ false

abbrev pub IsFirstAhead : List Scene → List ModuleCopy → ℕ → ℕ → Option Site → Type 0
IsFirstAhead scenes copies i z None = (j w : ℕ) (p : Place) → IsAhead j w i z → IsUnclearAt scenes copies j w p → ⊥
IsFirstAhead scenes copies i z (Some s) = IsFirstSite scenes copies i z s

-- what one leaf of a module adds
pub record IsSite (m : LeafModule) (i z : ℕ) (s : Site) : Type 0 where
  pub copy : s.copy ≡ i
  pub leaf : s.leaf ≡ z
  pub within : z < length m.leaves
  pub unclear : IsUnclear m z
  pub place : s.place ≡ (leaf_at m.leaves z).place

abbrev pub IsSiteOf : LeafModule → ℕ → ℕ → Option Site → Type 0
IsSiteOf m i z None = z < length m.leaves → IsUnclear m z → ⊥
IsSiteOf m i z (Some s) = IsSite m i z s

-- a module has types, its statements drive what they must, and the clock of each register that is not there stands behind an index
pub record HasClocks (m : LeafModule) : Type 0 where
  pub typed : IsModuleTyped m
  pub driven : AreDriven m
  pub behind : (x : ℕ) → x < length m.leaves → HasClockBehind (role_at m x)

-- the names of what it declares are those of the components of its leaves
abbrev pub AreNamed : LeafModule → List (List ℕ) → Type 0
AreNamed m names =
    (x : ℕ) → x < length m.leaves → slice_get names (leaf_at m.leaves x).declaration ≡ Some (component_of_leaf (module_circuit m) x)

-- so it is with each
pub record AllHaveClocks (scenes : List Scene) (names : List (List (List ℕ))) : Type 0 where
  pub each : (s : Scene) → In scenes s → HasClocks (leafed_module s)
  pub count : length names ≡ length scenes
  pub named : (x : ℕ) (s : Scene) (ns : List (List ℕ)) → slice_get scenes x ≡ Some s → slice_get names x ≡ Some ns → AreNamed (leafed_module s) ns

-- the fault of an unclear leaf
abbrev pub IsToldAt : List Scene → List ModuleCopy → Site → Option FirFault → Type 0
IsToldAt scenes copies s None = ⊥
IsToldAt scenes copies s (Some f) = IsShownAt scenes copies s.copy s.leaf s.place (fault_of f)

abbrev pub TellsSite : List ModulePart → List (List (List ℕ)) → List ModuleCopy → Site → Option FirFault → Type 0
TellsSite modules names copies s told =
    (scenes : List Scene) → ArePartsOf scenes modules → AllHaveClocks scenes names → IsUnclearAt scenes copies s.copy s.leaf s.place
    → IsToldAt scenes copies s told

-- the first fault of all, or none
abbrev pub TellsFirst : List ModulePart → List (List (List ℕ)) → List ModuleCopy → Option FirFault → Type 0
TellsFirst modules names copies told =
    (scenes : List Scene) → ArePartsOf scenes modules → AllHaveClocks scenes names → IsToldOf scenes copies (option_map fault_of told)
