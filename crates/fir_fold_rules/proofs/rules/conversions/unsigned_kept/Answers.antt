use Rattle.fir_fold_rules.proofs.ConversionRules.{unsigned_kept}
use Rattle.fir_fold_rules.proofs.rules.conversions.unsigned_kept.Goals as goal

pub returns : goal.returns
returns c = unsigned_kept c.args.ty c.args.a.now c.in_ok-y.y.now c.in_ok-y.ensures
