use Rattle.std.proofs.Common.{max, arith}
use Rattle.fir_bits.proofs.Readings.{reading-extended}
use Rattle.fir_bits.proofs.laws.pad_keeps_integer.Goals as goal

pub returns : goal.returns
returns c = λ e n is. reading-extended e.signed e.value.width e.value.number (max e.value.width n) is.below (omega arith)
