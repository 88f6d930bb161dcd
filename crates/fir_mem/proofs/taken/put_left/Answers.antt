use Rattle.fir_mem.proofs.Steps.{left_built}
use Rattle.fir_mem.proofs.taken.put_left.Goals as goal

pub returns : goal.returns
returns c = left_built c.put_guard.result _ _ _ _ _ _ _ _ _ c.as_slice.ensures c.in_ok-taken.ensures c.put_guard.ensures
