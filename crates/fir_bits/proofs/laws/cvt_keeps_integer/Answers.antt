use Rattle.fir_bits.proofs.Readings.{reading-cvt}
use Rattle.fir_bits.proofs.laws.cvt_keeps_integer.Goals as goal

pub returns : goal.returns
returns c = λ e is. reading-cvt e.signed e.value.width e.value.number is.below
