use Rattle.std.proofs.Common.{◌≡◌, ℕ, ◌+◌, ◌<◌, List, ◌++◌, length, take, Option, Some, None, sym, subst, arith, append-nil}
use Rattle.std.specs.Option.{option_to_list}
use Rattle.std.proofs.lemmas.List.{length-take-le}
use Rattle.fir_tick.specs.declared.pipe_plans.PipePlan.{PipePlan}
use Rattle.fir_tick.specs.working.PipePlans.{ArePipePlans, IsPipeWork}
use Rattle.fir_tick.proofs.Lists.{item_next}
use Rattle.fir_tick.proofs.PipeLists.{pipes_more}
use Rattle.fir_tick.proofs.pipe_plans.pipe_plans.Goals as goal
use Rattle.fir_tick.proofs.pipe_plans.pipe_plans.Goals.{in-Some+in_ok-push, in_default}

pub loop-place-preserved : goal.loop-place-preserved
loop-place-preserved c =
    let net = c.args.net.now in
    let roots = c.args.roots.now in
    let is_new = c.args.is_new in
    let i = c.loop-place.place in
    let word = c.index-state-place.result in
    let plans = c.loop-place.plans.items in
    let next = item_next c.as_slice-state.result.now net.state c.as_slice-state.ensures i word word c.loop-place-test.true c.index-state-place.is in
    let within : i < length net.state = subst (λ (ks : List ℕ). i < length ks) c.as_slice-state.ensures c.loop-place-test.true in
    let cut = length-take-le i net.state (omega (arith, within)) in
    let long : i ≡ 0 + length (take i net.state) = omega (arith, cut) in
    let more : (own : Option PipePlan) → IsPipeWork net roots is_new i word own → ArePipePlans net roots is_new 0 (take (i + 1) net.state) (plans ++ option_to_list own) = λ own is.
    subst (λ (ks : List ℕ). ArePipePlans net roots is_new 0 ks (plans ++ option_to_list own)) (sym next)
    (pipes_more net roots is_new (take i net.state) 0 plans word own c.loop-place.invariant (subst (λ (j : ℕ). IsPipeWork net roots is_new j word own) long is))
    in
    elim c.match-pipe_plan.branch [
      | in-Some+in_ok-push w ↦ rw (w.plans-is, w.in_ok-push.ensures.items) (more (Some w.in-Some.plan) w.in-Some.ensures)
      | in_default w ↦ rw w.plans-is (subst (ArePipePlans net roots is_new 0 (take (i + 1) net.state)) (append-nil plans) (more None w.in_default.ensures))
    ]
