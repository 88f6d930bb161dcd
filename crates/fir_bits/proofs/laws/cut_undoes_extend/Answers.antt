use Rattle.fir_bits.proofs.Readings.{low_bits-extended}
use Rattle.fir_bits.proofs.laws.cut_undoes_extend.Goals as goal

pub returns : goal.returns
returns c = λ signed v to is wider. low_bits-extended signed v.width v.number to is.below wider
