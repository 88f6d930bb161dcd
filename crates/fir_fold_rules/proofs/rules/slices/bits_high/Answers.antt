use Rattle.std.proofs.Common.{arith, refl}
use Rattle.fir_fold_rules.proofs.SliceRules.{bits_high}
use Rattle.fir_fold_rules.proofs.rules.slices.bits_high.Goals as goal

pub returns-then-is_above : goal.returns-then-is_above
returns-then-is_above c = bits_high c.args.ty c.args.a.now c.args.n c.args.m c.in_ok-x.x.now c.in_ok-x.ensures.0 c.saturating_sub-high.result c.saturating_sub-low.result c.in_ok-x.ensures.1 (c.if-is_above.ensures refl)
    (omega arith) (omega arith)
