use Rattle.std.proofs.Common.{◌≡◌, take}
use Rattle.fir_tick.specs.working.Plans.{output_plan, plans_by}
use Rattle.fir_tick.proofs.plan.output_plans.Given as goal

abbrev pub invariant-loop-k : goal.invariant-loop-k
invariant-loop-k l = l.plans.items ≡ plans_by output_plan 0 (take l.k l.leaves)
