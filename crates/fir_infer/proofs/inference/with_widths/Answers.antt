use Rattle.fir_ast.specs.working.Views.{circuit_of}
use Rattle.fir_ast.specs.working.CodeFaults.{fault_of}
use Rattle.fir_infer.proofs.InferencePass.{widths_behind, inferred}
use Rattle.fir_infer.proofs.inference.with_widths.Goals as goal

pub returns-in-Ok-clause-clear : goal.returns-in-Ok-clause-clear
returns-in-Ok-clause-clear c = inferred (circuit_of c.args.typed) c.requires.clear c.in-Ok.ensures.fits

pub returns-in-Err-Fault-clause-fault : goal.returns-in-Err-Fault-clause-fault
returns-in-Err-Fault-clause-fault c =
    widths_behind (circuit_of c.args.typed) (fault_of c.in-Err-Fault.fault) c.requires.clear (rw c.in-Err-Fault.field-0-is at c.in-Err-Fault.ensures.fault)
