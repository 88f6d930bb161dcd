use Rattle.std.proofs.Common.{refl}
use Rattle.fir_fold_rules.proofs.ComparisonRules.{neq_zero}
use Rattle.fir_fold_rules.proofs.rules.comparisons.neq_zero.Goals as goal

pub returns-then-is_number : goal.returns-then-is_number
returns-then-is_number c = neq_zero c.args.ty c.args.a.now c.args.b.now (c.if-is_bit.ensures refl) (c.if-is_number.ensures refl)
