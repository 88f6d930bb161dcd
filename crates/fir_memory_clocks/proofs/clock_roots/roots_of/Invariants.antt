use Rattle.std.proofs.Common.{◌≡◌, map, take}
use Rattle.fir_memory_clocks.specs.working.Marks.{root_of}
use Rattle.fir_memory_clocks.proofs.clock_roots.roots_of.Given as goal

abbrev pub invariant-loop-mark : goal.invariant-loop-mark
invariant-loop-mark l = l.roots.items ≡ map root_of (take l.mark-index l.marks)
