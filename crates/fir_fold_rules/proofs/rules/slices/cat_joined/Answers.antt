use Rattle.std.proofs.Common.{refl}
use Rattle.fir_fold_rules.proofs.SliceRules.{cat_joined}
use Rattle.fir_fold_rules.proofs.rules.slices.cat_joined.Goals as goal

pub returns-then-is_same_read : goal.returns-then-is_same_read
returns-then-is_same_read c = let u = c.in_ok-upper in let l = c.in_ok-lower in cat_joined c.args.ty c.args.a.now c.args.b.now u.upper.read u.upper.high u.upper.low l.lower.read l.lower.high l.lower.low u.ensures l.ensures (c.if-is_same_read.ensures refl) (c.if-is_next.ensures refl)
