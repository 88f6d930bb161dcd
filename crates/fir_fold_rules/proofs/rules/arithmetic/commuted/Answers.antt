use Rattle.std.proofs.Common.{◌∙◌, sym}
use Rattle.fir_fold_rules.proofs.ArithmeticRules.{commuted_pair}
use Rattle.fir_fold_rules.proofs.rules.arithmetic.commuted.Goals as goal

pub returns-then-not-is_literal : goal.returns-then-not-is_literal
returns-then-not-is_literal c = commuted_pair c.args.ty c.args.a.now c.args.b.now c.args.op (sym c.commutes.ensures ∙ c.if-commutes.true)
