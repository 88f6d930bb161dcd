use Rattle.std.proofs.Common.{refl}
use Rattle.fir_fold_rules.proofs.ArithmeticRules.{sub_zero}
use Rattle.fir_fold_rules.proofs.rules.arithmetic.sub_zero.Goals as goal

pub returns-then-is_number : goal.returns-then-is_number
returns-then-is_number c = sub_zero c.args.ty c.args.a.now c.args.b.now c.from.result c.from.ensures (c.if-is_number.ensures refl)
