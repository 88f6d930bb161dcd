use Rattle.std.proofs.Common.{refl}
use Rattle.fir_fold_rules.proofs.ConversionRules.{orr_bit}
use Rattle.fir_fold_rules.proofs.rules.conversions.orr_bit.Goals as goal

pub returns-then-has_width : goal.returns-then-has_width
returns-then-has_width c = orr_bit c.args.ty c.args.a.now (c.if-has_width.ensures refl)
