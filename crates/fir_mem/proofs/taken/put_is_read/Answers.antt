use Rattle.fir_mem.proofs.Steps.{read_built}
use Rattle.fir_mem.proofs.taken.put_is_read.Goals as goal

pub returns : goal.returns
returns c = read_built c.put_bit-2.result _ _ _ _ _ _ _ _ c.in_ok-end.ensures c.in_ok-within.ensures c.put_bit-2.ensures
