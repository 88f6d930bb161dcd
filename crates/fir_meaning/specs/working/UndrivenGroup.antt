-- E24 in a circuit (FIRRTL spec, "Initialization of Components"): the leaves of all modules that some choice leaves undriven.
-- Told is the first of them in the order of the modules and of their leaves.
use Rattle.std.specs.Prelude.{ℕ, ◌<◌}
use Rattle.fir_ast.specs.Circuits.{CircuitTree}
use Rattle.fir_ast.specs.Faults.{Fault}
use Rattle.fir_pass.specs.Groups.{Group}
use Rattle.fir_meaning.specs.ModuleScenes.{Scene}
use Rattle.fir_meaning.specs.working.LeafedModules.{leafed_module}
use Rattle.fir_meaning.specs.Scenes.{IsSceneOf}
use Rattle.fir_meaning.specs.working.UndrivenLeaves.{AreDriven, AreDrivenBefore, ShowsUndriven}

-- the fault of a leaf of the module of a number
pub record IsFaultOf (c : CircuitTree) (module_number leaf : ℕ) (f : Fault) : Type 0 where
  pub scene : Scene
  pub is_scene : IsSceneOf c module_number scene
  pub shows : ShowsUndriven (leafed_module scene) leaf f

pub record IsShown (c : CircuitTree) (f : Fault) : Type 0 where
  pub module_number : ℕ
  pub leaf : ℕ
  pub stands : IsFaultOf c module_number leaf f

-- no module of a lower number has such a leaf, nor has the module one of a lower number
pub record IsTold (c : CircuitTree) (f : Fault) : Type 0 where
  pub module_number : ℕ
  pub leaf : ℕ
  pub stands : IsFaultOf c module_number leaf f
  pub before : (s : Scene) → IsSceneOf c module_number s → AreDrivenBefore (leafed_module s) leaf
  pub modules_before : (other : ℕ) (s : Scene) → other < module_number → IsSceneOf c other s → AreDriven (leafed_module s)

abbrev pub undriven_group : CircuitTree → Group
undriven_group c = record { shows = IsShown c; tells = IsTold c }
