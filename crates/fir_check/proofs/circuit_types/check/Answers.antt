use Rattle.fir_ast.specs.working.Views.{circuit_of}
use Rattle.fir_ast.specs.working.CodeFaults.{fault_of}
use Rattle.fir_check.proofs.TypePass.{types_first}
use Rattle.fir_check.proofs.circuit_types.check.Goals as goal

pub returns-in-Err-Fault-clause-fault : goal.returns-in-Err-Fault-clause-fault
returns-in-Err-Fault-clause-fault c = types_first (circuit_of c.args.named) (fault_of c.in-Err-Fault.fault) (rw c.in-Err-Fault.field-0-is at c.in-Err-Fault.ensures)
