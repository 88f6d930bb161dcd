use Rattle.std.proofs.Common.{◌≡◌, drop}
use Rattle.ver_sim.specs.working.Turns.{turns}
use Rattle.ver_sim.proofs.steps.take_steps.Given as goal

abbrev pub invariant-loop-number : goal.invariant-loop-number
invariant-loop-number l = turns l.tasks l.state (drop l.number-index l.order) l.values ≡ turns l.tasks l.state l.order l.fn.values
