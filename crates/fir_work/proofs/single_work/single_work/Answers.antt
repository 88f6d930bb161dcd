use Rattle.std.proofs.Common.{arith, refl}
use Rattle.fir_work.proofs.SingleForms.{bits_form, head_form, tail_form, cvt_form, shl_form, shr_form}
use Rattle.fir_work.proofs.SignedForms.{negative_form}
use Rattle.fir_work.proofs.single_work.single_work.Goals as goal

pub returns-in-Bits : goal.returns-in-Bits
returns-in-Bits c = rw c.in-Bits.is (bits_form c.args.a c.args.n c.args.m c.args.width c.mask-in-Bits.result (rw c.in-Bits.is at c.requires) c.mask-in-Bits.ensures)

pub returns-in-Head : goal.returns-in-Head
returns-in-Head c = rw c.in-Head.is (head_form c.args.a c.args.n c.args.m c.args.width c.mask-in-Head.result (rw c.in-Head.is at c.requires) c.mask-in-Head.ensures (omega arith))

pub returns-in-Tail : goal.returns-in-Tail
returns-in-Tail c = rw c.in-Tail.is (tail_form c.args.a c.args.n c.args.m c.args.width c.mask-in-Tail.result (rw c.in-Tail.is at c.requires) c.mask-in-Tail.ensures)

pub returns-in-Cvt : goal.returns-in-Cvt
returns-in-Cvt c = rw c.in-Cvt.is (cvt_form c.args.a c.args.n c.args.m c.args.width (rw c.in-Cvt.is at c.requires))

pub returns-in-Shl : goal.returns-in-Shl
returns-in-Shl c = rw c.in-Shl.is (shl_form c.args.a c.args.n c.args.m c.args.width (rw c.in-Shl.is at c.requires) c.if-n-lt128.true)

pub returns-in-Shr : goal.returns-in-Shr
returns-in-Shr c =
    rw c.in-Shr.is (shr_form c.args.a c.args.n c.args.m c.args.width c.mask-in-Shr.result (rw c.in-Shr.is at c.requires) (rw c.from.ensures at c.if-n-from.true) c.mask-in-Shr.ensures)

pub returns-in-Neg : goal.returns-in-Neg
returns-in-Neg c =
    rw (c.in-Neg.is, c.negative_form.ensures) (negative_form c.args.a c.args.n c.args.m c.args.width _ (rw c.in-Neg.is at c.requires) refl)
