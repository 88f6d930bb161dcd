use Rattle.fir_ast.specs.working.Views.{circuit_of}
use Rattle.fir_ast.specs.working.CodeFaults.{fault_of}
use Rattle.fir_infer.proofs.InferencePass.{resets_first}
use Rattle.fir_infer.proofs.inference.infer.Goals as goal

pub returns-in-Err-Fault-clause-fault : goal.returns-in-Err-Fault-clause-fault
returns-in-Err-Fault-clause-fault c =
    rw c.in-Err-Fault.field-0-is
    (resets_first (circuit_of c.args.typed) (fault_of c.in-Err-Fault.fault) (rw c.in-Err-Fault.field-0-is at c.in-Err-Fault.ensures.fault))
