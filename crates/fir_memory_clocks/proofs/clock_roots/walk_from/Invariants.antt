use Rattle.fir_memory_clocks.proofs.MarkedLeaves.{IsUnderWay}
use Rattle.fir_memory_clocks.proofs.clock_roots.walk_from.Given as goal

abbrev pub invariant-loop-steps : goal.invariant-loop-steps
invariant-loop-steps l = IsUnderWay l.roles l.leaf l.fn.marks l.marks l.steps l.at
