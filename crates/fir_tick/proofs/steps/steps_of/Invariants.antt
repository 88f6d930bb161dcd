use Rattle.std.proofs.Common.{take}
use Rattle.fir_tick.specs.working.Steps.{AreSteps}
use Rattle.fir_tick.proofs.steps.steps_of.Given as goal

abbrev pub invariant-loop-read : goal.invariant-loop-read
invariant-loop-read l = AreSteps l.net (take l.read-index l.order) l.steps.items
