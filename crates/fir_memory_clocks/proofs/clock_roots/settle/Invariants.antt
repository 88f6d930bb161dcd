use Rattle.fir_memory_clocks.proofs.MarkedLeaves.{IsSettling}
use Rattle.fir_memory_clocks.proofs.clock_roots.settle.Given as goal

abbrev pub invariant-loop-step : goal.invariant-loop-step
invariant-loop-step l = IsSettling l.roles l.leaf l.fn.marks l.walk.steps l.marks l._step l.at
