use Rattle.std.proofs.Common.{refl}
use Rattle.fir_fold_rules.proofs.SliceRules.{bits_low}
use Rattle.fir_fold_rules.proofs.rules.slices.bits_low.Goals as goal

pub returns-then-is_below : goal.returns-then-is_below
returns-then-is_below c = bits_low c.args.ty c.args.a.now c.args.n c.args.m c.in_ok-y.ensures.0 c.in_ok-y.y.now c.in_ok-y.ensures.1 (c.if-is_below.ensures refl)
