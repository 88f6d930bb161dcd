use Rattle.fir_leaf.proofs.ClockSteps.{faultless_has_step}
use Rattle.fir_leaf.proofs.fault_laws.faultless_has_step.Goals as goal

pub returns : goal.returns
returns c = faultless_has_step
