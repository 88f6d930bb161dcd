use Rattle.fir_meaning.proofs.LeastRules.{width_grows}
use Rattle.fir_meaning.proofs.width_laws.widths_grow.Goals as goal

pub returns : goal.returns
returns c = width_grows c.monotone.ensures
