use Rattle.fir_fold_rules.proofs.ConversionRules.{unsigned_none}
use Rattle.fir_fold_rules.proofs.rules.conversions.unsigned_none.Goals as goal

pub returns-then-is_unsigned : goal.returns-then-is_unsigned
returns-then-is_unsigned c = unsigned_none c.args.ty c.args.a.now
