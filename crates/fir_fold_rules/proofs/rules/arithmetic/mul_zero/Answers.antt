use Rattle.std.proofs.Common.{refl}
use Rattle.fir_fold_rules.proofs.ArithmeticRules.{mul_zero}
use Rattle.fir_fold_rules.proofs.rules.arithmetic.mul_zero.Goals as goal

pub returns-then-is_number : goal.returns-then-is_number
returns-then-is_number c = mul_zero c.args.ty c.args.a.now c.args.b.now (c.if-is_number.ensures refl)
