use Rattle.std.proofs.Common.{[], ◌∷◌, take, subst}
use Rattle.fir_tick.specs.working.Plans.{IsRegisterPlan}
use Rattle.fir_tick.proofs.Lists.{pairs_joined}
use Rattle.fir_tick.proofs.WordLeaves.{word_next}
use Rattle.fir_tick.proofs.plan.register_plans.Goals as goal

pub loop-word-preserved : goal.loop-word-preserved
loop-word-preserved c =
    let net = c.args.net.now in
    let i = c.loop-word.word-index in
    let word = c.word-item.result in
    let R = IsRegisterPlan net c.args.roots.now in
    let plan : R c.register_plan.result word = subst (R c.register_plan.result) c.number-number.ensures c.register_plan.ensures in
    let next = word_next net c.requires c.as_slice-leaves.result.now c.as_slice-leaves.ensures c.as_slice-state.result.now c.as_slice-state.ensures i word c.loop-word-test.true c.word-item.is in
    rw (c.in_ok-push.ensures.items, next) (pairs_joined R c.loop-word.plans.items (c.register_plan.result ∷ []) (take i net.state) (word ∷ []) c.loop-word.invariant (plan, tt))
