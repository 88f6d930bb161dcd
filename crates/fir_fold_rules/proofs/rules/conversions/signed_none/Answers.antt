use Rattle.fir_fold_rules.proofs.ConversionRules.{signed_none}
use Rattle.fir_fold_rules.proofs.rules.conversions.signed_none.Goals as goal

pub returns-then-is_signed : goal.returns-then-is_signed
returns-then-is_signed c = signed_none c.args.ty c.args.a.now
