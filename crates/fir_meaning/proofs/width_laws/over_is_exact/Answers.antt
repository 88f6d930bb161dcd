use Rattle.fir_meaning.proofs.OverLess.{over_exact}
use Rattle.fir_meaning.proofs.width_laws.over_is_exact.Goals as goal

pub returns : goal.returns
returns c = over_exact c.monotone.ensures
