use Rattle.fir_meaning.proofs.LeastRules.{least_within}
use Rattle.fir_meaning.proofs.width_laws.least_is_within.Goals as goal

pub returns : goal.returns
returns c = least_within c.monotone.ensures
