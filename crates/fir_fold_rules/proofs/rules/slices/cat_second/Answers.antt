use Rattle.std.proofs.Common.{refl}
use Rattle.fir_fold_rules.proofs.SliceRules.{cat_second}
use Rattle.fir_fold_rules.proofs.rules.slices.cat_second.Goals as goal

pub returns-then-has_width : goal.returns-then-has_width
returns-then-has_width c = cat_second c.args.ty c.args.a.now c.args.b.now (c.if-has_width.ensures refl)
