use Rattle.ver_sim.specs.working.Turns.{ShowFirst}
use Rattle.ver_sim.proofs.unsettled.first_unsettled.Given as goal

abbrev pub invariant-loop-number : goal.invariant-loop-number
invariant-loop-number l = ShowFirst l.tasks l.state l.values l.number
