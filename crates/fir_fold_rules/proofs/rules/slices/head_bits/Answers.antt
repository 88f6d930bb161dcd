use Rattle.std.proofs.Common.{◌-◌, ◌≤◌, ap, subst}
use Rattle.fir_fold_rules.proofs.SliceRules.{head_bits}
use Rattle.fir_fold_rules.proofs.rules.slices.head_bits.Goals as goal

pub returns-then-n-width : goal.returns-then-n-width
returns-then-n-width c = let w = c.from-width.ensures in let n = c.args.n in head_bits c.args.ty c.args.a.now n (c.from-width.result - 1) (c.from-width.result - n) (subst (λ k. n ≤ k) w c.if-n-width.true) (ap (λ k. k - 1) w) (ap (λ k. k - n) w) c.if-n-ge1.true
