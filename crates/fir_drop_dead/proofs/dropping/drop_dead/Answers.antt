use Rattle.std.proofs.Common.{Err, IfOk, Ok, Result}
use Rattle.fir_drop_dead.proofs.dropping.drop_dead.Goals as goal

both : {A E : Type 0} → (P Q R : A → Type 0) → ((x : A) → P x → Q x → R x) → (r : Result A E) → IfOk r P → IfOk r Q → IfOk r R
both P Q R h (Ok x) p q = h x p q
both P Q R h (Err e) p q = tt

pub returns-clause-equivalent : goal.returns-clause-equivalent
returns-clause-equivalent c =
    both _ _ _
    (λ r written ordered. c.rewritten_is_equivalent.ensures c.args.net r.0 written.number c.args.order r.1 c.requires.whole c.requires.ordered ordered written.rewrites)
    c.without_dead.result c.without_dead.ensures.rewritten c.without_dead.ensures.ordered
