use Rattle.std.proofs.Common.{refl}
use Rattle.fir_fold_rules.proofs.SliceRules.{bits_unsigned}
use Rattle.fir_fold_rules.proofs.rules.slices.bits_unsigned.Goals as goal

pub returns-then-is_below : goal.returns-then-is_below
returns-then-is_below c = bits_unsigned c.args.ty c.args.a.now c.args.n c.args.m c.in_ok-x.x.now c.in_ok-x.ensures (c.if-is_below.ensures refl)
