use Rattle.std.proofs.Common.{refl}
use Rattle.fir_fold_rules.proofs.BitwiseRules.{or_ones}
use Rattle.fir_fold_rules.proofs.rules.bitwise.or_ones.Goals as goal

pub returns-then-is_ones : goal.returns-then-is_ones
returns-then-is_ones c = or_ones c.args.ty c.args.a.now c.args.b.now (c.if-is_ones.ensures refl)
