use Rattle.fir_meaning.proofs.LeastRules.{one_least}
use Rattle.fir_meaning.proofs.width_laws.one_least.Goals as goal

pub returns : goal.returns
returns c = one_least
