-- The designs of a circuit's modules over their ground leaves (FIRRTL spec, "Instances").
use Rattle.std.specs.Prelude.{◌≡◌, ℕ, List, []}
use Rattle.fir_base.specs.Lists.{In}
use Rattle.fir_ast.specs.Circuits.{CircuitTree}
use Rattle.fir_meaning.specs.Elaborated.{AreScenes}
use Rattle.fir_meaning.specs.working.Elaborated.{views}
use Rattle.fir_meaning.specs.working.NameGroups.{HasNames}
use Rattle.fir_meaning.specs.TypeGroup.{type_faults}
use Rattle.fir_names.specs.working.ModuleOrder.{IsModuleOrder}
use Rattle.fir_meaning.specs.working.Designs.{Design, IsDesignOf}
use Rattle.fir_meaning.specs.ModuleScenes.{Scene}
use Rattle.fir_meaning.specs.working.LeafedModules.{leafed_module}
use Rattle.fir_leaf.specs.working.NamedDesigns.{IsNamed}
use Rattle.fir_leaf.specs.working.SoundDesigns.{IsMain, IsSound}

-- a design of the scene's module, of which there is no other, that is sound
pub record IsSoundDesign (scenes : List Scene) (s : Scene) (d : Design) : Type 0 where
  pub is : IsDesignOf (views scenes) (leafed_module s) d
  pub main : IsMain d
  pub named : IsNamed d
  pub sound : IsSound d

-- where no fault of names or types stands, and some order of the modules has each behind those that it has instances of
abbrev pub HasSoundDesigns : Type 0
HasSoundDesigns =
    (c : CircuitTree) (scenes : List Scene) (order : List ℕ) (s : Scene) → HasNames c → type_faults c ≡ [] → IsModuleOrder c order → AreScenes c scenes
    → In scenes s → (d : Design) × IsSoundDesign scenes s d
