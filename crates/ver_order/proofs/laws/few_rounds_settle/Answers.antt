use Rattle.ver_order.proofs.LeastTurns.{few_rounds}
use Rattle.ver_order.proofs.laws.few_rounds_settle.Goals as goal

pub returns : goal.returns
returns c v valid state tick settled is env shown round h = few_rounds v valid state tick settled is env shown round h
