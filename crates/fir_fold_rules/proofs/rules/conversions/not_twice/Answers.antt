use Rattle.fir_fold_rules.proofs.ConversionRules.{not_twice}
use Rattle.fir_fold_rules.proofs.rules.conversions.not_twice.Goals as goal

pub returns : goal.returns
returns c = not_twice c.args.ty c.args.a.now c.in_ok-y.y.now c.in_ok-y.ensures
