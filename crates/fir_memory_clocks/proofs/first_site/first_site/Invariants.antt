use Rattle.fir_memory_clocks.specs.working.FirstMemories.{IsFirstBefore}
use Rattle.fir_memory_clocks.proofs.first_site.first_site.Given as goal

abbrev pub invariant-loop-number : goal.invariant-loop-number
invariant-loop-number l = IsFirstBefore l.found l.copies l.number l.first
