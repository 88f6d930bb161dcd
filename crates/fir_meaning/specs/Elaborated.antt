-- What stands below the main module of a circuit, instance by instance (FIRRTL spec, "Circuits", "Modules", "Instances").
-- Each module is taken with the circuit's widths and resets. The main module is the one that has the circuit's name.
use Rattle.std.specs.Prelude.{◌≡◌, ℕ, List, map, Some, slice_get}
use Rattle.fir_ast.specs.Circuits.{CircuitTree}
use Rattle.fir_meaning.specs.ModuleScenes.{Scene}
use Rattle.fir_meaning.specs.ResetJoins.{numbered_module}
use Rattle.fir_meaning.specs.Scenes.{IsSceneOf}
use Rattle.fir_meaning.specs.SizedDeclarations.{numbered_modules}
use Rattle.fir_meaning.specs.SourceDesigns.{IsSourceDesignOf, SourceDesign, scene_where}

-- a scene for each module of a circuit, in their order
abbrev pub AreScenes : CircuitTree → List Scene → Type 0
AreScenes c scenes = map (λ (s : Scene). s.own) scenes ≡ numbered_modules c

-- the scenes of the modules, and that of the main module
pub record HasMain (c : CircuitTree) (scenes : List Scene) (main : Scene) : Type 0 where
  pub are : AreScenes c scenes
  pub each : (k : ℕ) (s : Scene) → slice_get scenes k ≡ Some s → IsSceneOf c k s
  pub is_main : scene_where scenes (numbered_module 0 c.modules c.named.name) ≡ Some main

-- the tree of source modules below the main module
pub record IsSourceOf (c : CircuitTree) (t : SourceDesign) : Type 0 where
  pub scenes : List Scene
  pub main : Scene
  pub has : HasMain c scenes main
  pub is : IsSourceDesignOf scenes main t
