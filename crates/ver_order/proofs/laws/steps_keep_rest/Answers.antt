use Rattle.ver_order.proofs.StepsAtRest.{keeps_rest}
use Rattle.ver_order.proofs.laws.steps_keep_rest.Goals as goal

pub returns : goal.returns
returns c v state tick env rest list = keeps_rest v state tick env rest list
