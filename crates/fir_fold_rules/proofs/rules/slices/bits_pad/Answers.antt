use Rattle.std.proofs.Common.{refl}
use Rattle.fir_fold_rules.proofs.SliceRules.{bits_pad}
use Rattle.fir_fold_rules.proofs.rules.slices.bits_pad.Goals as goal

pub returns-then-is_below : goal.returns-then-is_below
returns-then-is_below c = bits_pad c.args.ty c.args.a.now c.args.n c.args.m c.in_ok-x.x.now c.in_ok-x.ensures.0 c.in_ok-x.ensures.1 (c.if-is_below.ensures refl)
