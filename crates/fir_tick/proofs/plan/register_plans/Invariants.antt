use Rattle.std.proofs.Common.{take}
use Rattle.std.specs.List.{AllZip}
use Rattle.fir_tick.specs.working.Plans.{IsRegisterPlan}
use Rattle.fir_tick.proofs.plan.register_plans.Given as goal

abbrev pub invariant-loop-word : goal.invariant-loop-word
invariant-loop-word l = AllZip (IsRegisterPlan l.net l.roots) l.plans.items (take l.word-index l.net.state)
