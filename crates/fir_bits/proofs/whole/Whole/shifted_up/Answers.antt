use Rattle.std.proofs.Common.{arith}
use Rattle.fir_bits.proofs.Powers.{exponent_below}
use Rattle.fir_bits.proofs.Masks.{unsigned_abs-of_sign}
use Rattle.fir_bits.proofs.whole.Whole.shifted_up.Goals as goal

pub overflow_shl-product : goal.overflow_shl-product
overflow_shl-product c =
    let x = c.self.inside in
    exponent_below x.magnitude c.args.by 128 (omega arith) (rw (← unsigned_abs-of_sign x.negative x.magnitude) (rw c.self.view_is c.requires))
