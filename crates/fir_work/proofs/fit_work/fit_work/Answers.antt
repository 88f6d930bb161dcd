use Rattle.std.proofs.Common.{arith}
use Rattle.fir_bits.proofs.Powers.{pow_le}
use Rattle.fir_work.proofs.FitForms.{cut_form, extend_form}
use Rattle.fir_work.proofs.fit_work.fit_work.Goals as goal

pub overflow_sub-result : goal.overflow_sub-result
overflow_sub-result c = let powers = pow_le c.args.ty.width c.args.width (omega arith) in omega arith

pub returns-then-ty-width : goal.returns-then-ty-width
returns-then-ty-width c = cut_form c.args.ty c.args.width c.mask-all.result (omega arith) c.mask-all.ensures

pub returns-else-is_plain : goal.returns-else-is_plain
returns-else-is_plain c =
    rw c.saturating_sub.ensures
    (extend_form c.args.ty c.args.width c.mask.result c.mask-all.result c.mask.ensures c.mask-all.ensures (omega arith) c.requires.to_narrow (rw c.is_plain.ensures at c.if-is_plain.false))
