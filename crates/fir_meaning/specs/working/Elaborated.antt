-- The design below the main module of a circuit, over its numbered leaves (FIRRTL spec, "Circuits", "Modules", "Instances").
use Rattle.std.specs.Prelude.{List, map}
use Rattle.fir_ast.specs.Circuits.{CircuitTree}
use Rattle.fir_meaning.specs.working.Designs.{Design, IsDesignOf}
use Rattle.fir_meaning.specs.working.LeafModules.{LeafModule}
use Rattle.fir_meaning.specs.ModuleScenes.{Scene}
use Rattle.fir_meaning.specs.working.LeafedModules.{leafed_module}
use Rattle.fir_meaning.specs.Elaborated.{HasMain}

-- the same modules over their ground leaves
abbrev pub views : List Scene → List LeafModule
views scenes = map leafed_module scenes

-- the same over ground leaves
pub record IsLeafDesignOf (c : CircuitTree) (d : Design) : Type 0 where
  pub scenes : List Scene
  pub main : Scene
  pub has : HasMain c scenes main
  pub is : IsDesignOf (views scenes) (leafed_module main) d
