use Rattle.std.proofs.Common.{◌≡◌, List, ℕ, ◌-◌, ◌++◌, length, take, drop, sym, ap, ◌∙◌, subst}
use Rattle.std.proofs.Math.Seq.{take-append_seam}
use Rattle.ver_order.specs.working.Rounds.{IsRound}
use Rattle.ver_runner.proofs.Shuffles.{as_many, is_round}
use Rattle.ver_runner.specs.Orders.{numbers_from, shuffled}
use Rattle.ver_runner.proofs.orders.round_for.Goals as goal

-- what a slice of a whole vector leaves
left : (new old : List ℕ) (long : ℕ) → length new ≡ long → take long (new ++ drop (length new) old) ≡ new
left new old long is = ap (λ n. take n (new ++ drop (length new) old)) (sym is) ∙ take-append_seam new (drop (length new) old)

pub returns-clause-order : goal.returns-clause-order
returns-clause-order c =
    let new = c.shuffle.new.list in
    let old = c.in_ok-round.round.items in
    let first : c.as_mut_slice.result.now ≡ numbers_from 0 c.args.count = c.as_mut_slice.ensures.value ∙ c.in_ok-round.ensures in
    let long : length c.as_mut_slice.result.now ≡ c.args.count = ap length first ∙ as_many 0 c.args.count in
    left new old c.in_ok-round.round.len (c.shuffle.auto.list ∙ c.as_mut_slice.ensures.len) ∙ c.shuffle.ensures
    ∙ ap (λ n. shuffled (n - 1) c.from.result c.as_mut_slice.result.now) long
    ∙ ap (λ s. shuffled (c.args.count - 1) s c.as_mut_slice.result.now) c.from.ensures
    ∙ ap (shuffled (c.args.count - 1) c.args.number) first

pub returns-clause-round : goal.returns-clause-round
returns-clause-round c = subst (IsRound c.args.count) (sym (returns-clause-order c)) (is_round c.args.count c.args.number)
