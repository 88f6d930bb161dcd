use Rattle.std.proofs.Common.{zero-add, List, ℕ, [], ◌∷◌, ◌++◌, sym, ap, ◌∙◌}
use Rattle.ver_runner.proofs.Shuffles.{one_more}
use Rattle.ver_runner.proofs.orders.numbers.Goals as goal

pub loop-number-preserved : goal.loop-number-preserved
loop-number-preserved c = c.in_ok-push.ensures.items ∙ ap (λ (ns : List ℕ). ns ++ c.loop-number.number ∷ []) c.loop-number.invariant ∙ sym (one_more 0 c.loop-number.number c.loop-number.number (zero-add c.loop-number.number))
