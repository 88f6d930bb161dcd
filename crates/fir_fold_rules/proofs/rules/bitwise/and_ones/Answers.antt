use Rattle.std.proofs.Common.{refl}
use Rattle.fir_fold_rules.proofs.BitwiseRules.{and_ones}
use Rattle.fir_fold_rules.proofs.rules.bitwise.and_ones.Goals as goal

pub returns-then-is_ones : goal.returns-then-is_ones
returns-then-is_ones c = and_ones c.args.ty c.args.a.now c.args.b.now c.from.result c.from.ensures (c.if-is_ones.ensures refl)
