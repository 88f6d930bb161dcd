use Rattle.fir_bits.proofs.LiteralWidths.{least_width-is_least}
use Rattle.fir_bits.proofs.laws.least_width_is_least.Goals as goal

pub returns : goal.returns
returns c = least_width-is_least
