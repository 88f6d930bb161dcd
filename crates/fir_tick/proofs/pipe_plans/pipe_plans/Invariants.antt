use Rattle.std.proofs.Common.{take}
use Rattle.fir_tick.specs.working.PipePlans.{ArePipePlans}
use Rattle.fir_tick.proofs.pipe_plans.pipe_plans.Given as goal

abbrev pub invariant-loop-place : goal.invariant-loop-place
invariant-loop-place l = ArePipePlans l.net l.roots l.is_new 0 (take l.place l.net.state) l.plans.items
