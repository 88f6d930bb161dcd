use Rattle.fir_memory_clocks.specs.working.Marks.{AreMarkedBefore, AreSettled}
use Rattle.fir_memory_clocks.proofs.clock_roots.clock_roots.Given as goal

abbrev pub invariant-loop-leaf : goal.invariant-loop-leaf
invariant-loop-leaf l = AreSettled l.roles l.marks.items × AreMarkedBefore l.leaf l.marks.items
