use Rattle.fir_meaning.proofs.LeastRules.{has_least}
use Rattle.fir_meaning.proofs.width_laws.has_least.Goals as goal

pub returns : goal.returns
returns c = has_least c.monotone.ensures
