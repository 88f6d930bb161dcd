use Rattle.std.proofs.Common.{sym}
use Rattle.fir_bits.proofs.Masks.{and_greatest}
use Rattle.ver_build.proofs.Fields.{wide}
use Rattle.ver_build.proofs.atoms.low_bits.Goals as goal

pub returns-then-width-ge128 : goal.returns-then-width-ge128
returns-then-width-ge128 c = sym (wide c.args.n 128 c.args.width c.ranges.n.fits c.if-width-ge128.true)

pub returns-else-width-ge128 : goal.returns-else-width-ge128
returns-else-width-ge128 c = and_greatest c.args.width c.mask.result c.args.n c.mask.ensures
