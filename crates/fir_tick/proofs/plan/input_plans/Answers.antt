use Rattle.fir_tick.specs.working.Plans.{input_plan}
use Rattle.fir_tick.proofs.PlanLists.{plan_more, plan_less}
use Rattle.fir_tick.proofs.plan.input_plans.Goals as goal
use Rattle.fir_tick.proofs.plan.input_plans.Goals.{in-Some+in_ok-push, in_default}

pub loop-k-preserved : goal.loop-k-preserved
loop-k-preserved c =
    let ls = c.args.leaves.now in
    elim c.match-input_plan.branch [
      | in-Some+in_ok-push w ↦
          rw w.plans-is (plan_more input_plan ls c.loop-k.k c.index-leaves-k.result c.loop-k.plans.items w.push.new.self.items w.in-Some.plan c.loop-k-test.true c.index-leaves-k.is w.in-Some.ensures c.loop-k.invariant w.in_ok-push.ensures.items)
      | in_default w ↦ rw w.plans-is (plan_less input_plan ls c.loop-k.k c.index-leaves-k.result c.loop-k.plans.items c.loop-k-test.true c.index-leaves-k.is w.in_default.ensures c.loop-k.invariant)
    ]
