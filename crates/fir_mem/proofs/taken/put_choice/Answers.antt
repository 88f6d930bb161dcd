use Rattle.fir_mem.proofs.Steps.{choice_built}
use Rattle.fir_mem.proofs.taken.put_choice.Goals as goal

pub returns : goal.returns
returns c = choice_built c.put.result _ _ _ _ _ _ _ _ _ _ _ c.in_ok-here.ensures c.in_ok-written.ensures c.choice.ensures c.put.ensures
