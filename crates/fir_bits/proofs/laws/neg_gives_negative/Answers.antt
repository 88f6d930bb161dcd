use Rattle.fir_bits.proofs.Readings.{reading-negated}
use Rattle.fir_bits.proofs.laws.neg_gives_negative.Goals as goal

pub returns : goal.returns
returns c = λ e is. reading-negated e.signed e.value.width e.value.number is.below
