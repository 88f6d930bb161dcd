use Rattle.fir_fold_rules.proofs.ConversionRules.{shl_none}
use Rattle.fir_fold_rules.proofs.rules.conversions.shl_none.Goals as goal

pub returns-then-n-eq0 : goal.returns-then-n-eq0
returns-then-n-eq0 c = shl_none c.args.ty c.args.a.now c.args.n c.if-n-eq0.true
