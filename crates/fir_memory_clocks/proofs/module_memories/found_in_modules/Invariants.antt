use Rattle.fir_memory_clocks.proofs.FoundModules.{FoundSoFar}
use Rattle.fir_memory_clocks.proofs.module_memories.found_in_modules.Given as goal

abbrev pub invariant-loop-number : goal.invariant-loop-number
invariant-loop-number l = FoundSoFar l.modules l.nets l.held.items l.found.items l.number
