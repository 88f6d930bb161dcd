use Rattle.fir_fold_rules.proofs.ConversionRules.{signed_kept}
use Rattle.fir_fold_rules.proofs.rules.conversions.signed_kept.Goals as goal

pub returns : goal.returns
returns c = signed_kept c.args.ty c.args.a.now c.in_ok-y.y.now c.in_ok-y.ensures
