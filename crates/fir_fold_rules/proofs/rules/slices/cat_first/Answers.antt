use Rattle.std.proofs.Common.{refl}
use Rattle.fir_fold_rules.proofs.SliceRules.{cat_first}
use Rattle.fir_fold_rules.proofs.rules.slices.cat_first.Goals as goal

pub returns-then-has_width : goal.returns-then-has_width
returns-then-has_width c = cat_first c.args.ty c.args.a.now c.args.b.now (c.if-has_width.ensures refl)
