-- What a circuit means over its ground leaves and by paths: below each module there is one design of leaf views and one tree of source modules, and both
-- allow the same (FIRRTL spec, "Circuits", "Instances").
use Rattle.std.specs.Prelude.{◌≡◌, ◌↔◌, ℕ, ◌<◌, List, [], length, Option, Some, slice_get}
use Rattle.fir_base.specs.Ticks.{Tick}
use Rattle.fir_ast.specs.Circuits.{CircuitTree}
use Rattle.fir_meaning.specs.ModuleScenes.{Scene}
use Rattle.fir_meaning.specs.working.NameGroups.{HasNames}
use Rattle.fir_meaning.specs.working.Scenes.{HasScenes}
use Rattle.fir_meaning.specs.Scenes.{IsSceneOf}
use Rattle.fir_meaning.specs.TypeGroup.{type_faults}
use Rattle.fir_names.specs.working.ModuleOrder.{IsModuleOrder}
use Rattle.fir_meaning.specs.working.Designs.{Design}
use Rattle.fir_meaning.specs.working.Flattened.{flattened}
use Rattle.fir_meaning.specs.working.LeafAllows as over
use Rattle.fir_meaning.specs.working.LeafStates.{shape}
use Rattle.fir_meaning.specs.Elaborated.{AreScenes}
use Rattle.fir_design.specs.working.CircuitDesigns.{IsSoundDesign}
use Rattle.fir_meaning.specs.SourceAllows.{Allows}
use Rattle.fir_meaning.specs.SourceCircuits.{source_shape}
use Rattle.fir_meaning.specs.SourceDesigns.{IsSourceDesignOf, SourceDesign}

-- the scenes of all modules, in their order
pub record HasAllScenes (c : CircuitTree) : Type 0 where
  pub scenes : List Scene
  pub are : AreScenes c scenes
  pub each : (k : ℕ) (s : Scene) → slice_get scenes k ≡ Some s → IsSceneOf c k s

-- the module of a number, among these scenes
pub record MeansItsSource (c : CircuitTree) (scenes : List Scene) (module_number : ℕ) : Type 0 where
  pub main : Scene
  pub is_main : slice_get scenes module_number ≡ Some main
  pub design : Design
  pub is_design : IsSoundDesign scenes main design
  pub tree : SourceDesign
  pub is_tree : IsSourceDesignOf scenes main tree
  pub only_tree : (other : SourceDesign) → IsSourceDesignOf scenes main other → other ≡ tree
  pub shaped : shape (flattened design) ≡ source_shape tree
  pub allows :
      (state : List ℕ) (tick : Tick) (shown : List ℕ) (clocks_shown : List (Option ℕ)) (after : List ℕ)
      → Allows tree state tick shown clocks_shown after ↔ over.Allows (flattened design) state tick shown clocks_shown after

pub record MeansTheSame (c : CircuitTree) : Type 0 where
  pub all : HasAllScenes c
  pub each : (module_number : ℕ) → module_number < length c.modules → MeansItsSource c all.scenes module_number

-- so it is for each circuit without a fault of names or types whose modules have scenes, in some order with each behind those that it has instances of
abbrev pub CircuitsMeanTheirSources : Type 0
CircuitsMeanTheirSources = (c : CircuitTree) (order : List ℕ) → HasNames c → type_faults c ≡ [] → IsModuleOrder c order → HasScenes c → MeansTheSame c
