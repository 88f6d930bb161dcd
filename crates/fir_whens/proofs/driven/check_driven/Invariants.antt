use Rattle.fir_ast.specs.working.Views.{circuit_of}
use Rattle.fir_whens.proofs.UndrivenCircuits.{ModulesDriven}
use Rattle.fir_whens.proofs.driven.check_driven.Given as goal

abbrev pub invariant-loop-module_number : goal.invariant-loop-module_number
invariant-loop-module_number l = ModulesDriven (circuit_of l.circuit) l.module_number
