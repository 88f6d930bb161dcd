use Rattle.fir_fold_rules.proofs.ConversionRules.{cvt_none}
use Rattle.fir_fold_rules.proofs.rules.conversions.cvt_none.Goals as goal

pub returns-then-is_signed : goal.returns-then-is_signed
returns-then-is_signed c = cvt_none c.args.ty c.args.a.now
