use Rattle.std.proofs.Common.{◌≤◌, ◌+◌, arith}
use Rattle.fir_bits.proofs.Powers.{sum_below, product_narrow, multiple_narrow, shift_below}
use Rattle.fir_bits.proofs.values.value.Goals as goal

pub plus-requires : goal.plus-requires
plus-requires c =
    sum_below _ _ _ _ _ c.integer.ensures.size c.integer-in-Add.ensures.size (rw c.in-Add.is at c.requires.width) c.requires.narrow

pub minus-requires : goal.minus-requires
minus-requires c =
    sum_below _ _ _ _ _ c.integer-in-Sub.ensures.size c.integer-in-Sub-2.ensures.size (rw c.in-Sub.is at c.requires.width) c.requires.narrow

pub times-requires : goal.times-requires
times-requires c =
    let r_is = rw c.in-Mul.is at c.requires.width in
    let narrow : c.args.a.now.value.width + c.args.b.now.value.width ≤ 128 = omega arith in
    product_narrow _ _ _ _ c.integer-in-Mul.ensures.size c.integer-in-Mul-2.ensures.size narrow

pub shifted_up-requires : goal.shifted_up-requires
shifted_up-requires c =
    let r_is = rw c.in-Shl.is at c.requires.width in
    let narrow : c.args.a.now.value.width + c.args.n ≤ 128 = omega arith in
    multiple_narrow _ _ _ c.integer-in-Shl.ensures.size narrow

pub shifted_up-requires-in-Dshl : goal.shifted_up-requires-in-Dshl
shifted_up-requires-in-Dshl c =
    let r_is = rw c.in-Dshl.is at c.requires.width in
    shift_below _ c.bits.result c.args.a.now.value.width c.args.b.now.value.width c.integer-in-Dshl.ensures.size c.bits.ensures.below (omega arith)
