-- The modules of a circuit over their ground leaves.
use Rattle.std.specs.Prelude.{◌≡◌, ℕ, List, length, Some, slice_get}
use Rattle.fir_ast.specs.Circuits.{CircuitTree}
use Rattle.fir_meaning.specs.ModuleScenes.{Scene}
use Rattle.fir_meaning.specs.working.LeafedModules.{leafed_module}
use Rattle.fir_leaf_circuit.specs.declared.leaf_module.LeafModule.{LeafModule}
use Rattle.fir_meaning.specs.Scenes.{IsSceneOf}
use Rattle.fir_leaf_circuit.specs.working.Seen.{HasView}

-- each is the leaf view of the module of its number
pub record AreLeafed (c : CircuitTree) (ms : List LeafModule) : Type 0 where
  pub count : length ms ≡ length c.modules
  pub each : (number : ℕ) (m : LeafModule) (s : Scene) → slice_get ms number ≡ Some m → IsSceneOf c number s → HasView m (leafed_module s)
