use Rattle.fir_bits.proofs.Masks.{and_greatest}
use Rattle.ver_sim.proofs.CutNumbers.{low_all}
use Rattle.ver_sim.proofs.numbers.low_bits.Goals as goal

pub returns-then-width-lt128 : goal.returns-then-width-lt128
returns-then-width-lt128 c = and_greatest c.args.width c.mask.result c.args.number c.mask.ensures

pub returns-else-width-lt128 : goal.returns-else-width-lt128
returns-else-width-lt128 c = low_all c.args.number c.args.width c.ranges.number.fits c.if-width-lt128.false
