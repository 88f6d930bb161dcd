use Rattle.fir_fold_rules.proofs.ConversionRules.{pad_twice}
use Rattle.fir_fold_rules.proofs.rules.conversions.pad_twice.Goals as goal

pub returns : goal.returns
returns c = pad_twice c.args.ty c.args.a.now c.in_ok-y.y.now c.in_ok-y.ensures.0 c.args.n c.in_ok-y.ensures.1
