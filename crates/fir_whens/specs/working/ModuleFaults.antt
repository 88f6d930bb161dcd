-- What is found of one module: its first leaf that some choice leaves undriven, or that it has none (FIRRTL spec, "Initialization of Components").
use Rattle.std.specs.Prelude.{ℕ, Option, Some, None}
use Rattle.fir_ast.specs.declared.fault.FirFault.{FirFault}
use Rattle.fir_ast.specs.Circuits.{CircuitTree}
use Rattle.fir_ast.specs.working.CodeFaults.{fault_of}
use Rattle.fir_meaning.specs.ModuleScenes.{Scene}
use Rattle.fir_meaning.specs.working.LeafedModules.{leafed_module}
use Rattle.fir_meaning.specs.Scenes.{IsSceneOf}
use Rattle.fir_meaning.specs.working.UndrivenGroup.{IsFaultOf}
use Rattle.fir_meaning.specs.working.UndrivenLeaves.{AreDriven, AreDrivenBefore}

pub record IsFirstOf (c : CircuitTree) (module_number : ℕ) (f : FirFault) : Type 0 where
  pub leaf : ℕ
  pub stands : IsFaultOf c module_number leaf (fault_of f)
  pub before : (s : Scene) → IsSceneOf c module_number s → AreDrivenBefore (leafed_module s) leaf

abbrev pub IsFoundOf : CircuitTree → ℕ → Option FirFault → Type 0
IsFoundOf c module_number None = (s : Scene) → IsSceneOf c module_number s → AreDriven (leafed_module s)
IsFoundOf c module_number (Some f) = IsFirstOf c module_number f

-- in no module is a leaf left undriven that statements must drive
abbrev pub AreAllDriven : CircuitTree → Type 0
AreAllDriven c = (module_number : ℕ) (s : Scene) → IsSceneOf c module_number s → AreDriven (leafed_module s)
