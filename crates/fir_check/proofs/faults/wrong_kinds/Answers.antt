use Rattle.fir_check.proofs.KindsFaults.{kinds_fault}
use Rattle.fir_check.proofs.faults.wrong_kinds.Goals as goal

pub returns-in-Ok : goal.returns-in-Ok
returns-in-Ok c = kinds_fault _ _ _ c.in-Ok.ensures
