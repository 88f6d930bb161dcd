use Rattle.std.proofs.Common.{◌^◌, arith}
use Rattle.std.proofs.lemmas.Nat.{div_below, pow_pos}
use Rattle.fir_bits.proofs.Powers.{pow_le}
use Rattle.fir_bits.proofs.whole.shifted_right.Goals as goal

pub returns-then-by-ge128 : goal.returns-then-by-ge128
returns-then-by-ge128 c =
    omega (arith, div_below c.args.n (2 ^ c.args.by) 1 (pow_pos c.args.by) (omega (arith, pow_le 128 c.args.by (omega arith), c.ranges.n.fits)))
