use Rattle.fir_bits.proofs.Readings.{reading-extended}
use Rattle.fir_bits.proofs.laws.extend_keeps_integer.Goals as goal

pub returns : goal.returns
returns c = λ signed v to is wider. reading-extended signed v.width v.number to is.below wider
