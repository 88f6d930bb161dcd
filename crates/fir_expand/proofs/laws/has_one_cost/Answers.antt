use Rattle.fir_expand.proofs.OneCost.{one_cost}
use Rattle.fir_expand.proofs.laws.has_one_cost.Goals as goal

pub returns : goal.returns
returns c = one_cost
