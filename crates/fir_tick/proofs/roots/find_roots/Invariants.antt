use Rattle.fir_tick.proofs.ClockRoots.{Rooted}
use Rattle.fir_tick.proofs.roots.find_roots.Given as goal

abbrev pub invariant-loop-read : goal.invariant-loop-read
invariant-loop-read l = Rooted l.net l.order l.roots l.read-index
