use Rattle.std.proofs.Common.{refl}
use Rattle.fir_fold_rules.proofs.ConversionRules.{xorr_bit}
use Rattle.fir_fold_rules.proofs.rules.conversions.xorr_bit.Goals as goal

pub returns-then-has_width : goal.returns-then-has_width
returns-then-has_width c = xorr_bit c.args.ty c.args.a.now (c.if-has_width.ensures refl)
