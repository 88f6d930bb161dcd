use Rattle.ver_order.proofs.Rounds.{sources_stay}
use Rattle.ver_order.proofs.FittingSteps.{steps_fit}
use Rattle.ver_order.proofs.laws.steps_keep_sources.Goals as goal

pub returns-clause-sources : goal.returns-clause-sources
returns-clause-sources c v valid state tick env shown list = sources_stay v valid state tick env shown list

pub returns-clause-fit : goal.returns-clause-fit
returns-clause-fit c v valid state state_fits env fits list = steps_fit v valid state state_fits list env fits
