use Rattle.std.proofs.Common.{◌≡◌}
use Rattle.fir_mem.specs.working.Built.{lower_first}
use Rattle.fir_mem.proofs.taken.take_pipes.Given as goal

abbrev pub invariant-loop-number : goal.invariant-loop-number
invariant-loop-number l = l.lowered ≡ lower_first l.writes l.fn.lowered l.number
