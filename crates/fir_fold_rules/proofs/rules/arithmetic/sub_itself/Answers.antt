use Rattle.std.proofs.Common.{refl}
use Rattle.fir_fold_rules.proofs.ArithmeticRules.{sub_itself}
use Rattle.fir_fold_rules.proofs.rules.arithmetic.sub_itself.Goals as goal

pub returns-then-is_same : goal.returns-then-is_same
returns-then-is_same c = sub_itself c.args.ty c.args.a.now c.args.b.now (c.if-is_same.ensures refl)
