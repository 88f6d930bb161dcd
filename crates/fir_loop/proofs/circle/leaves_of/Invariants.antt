use Rattle.std.proofs.Common.{◌≡◌, ◌++◌, drop}
use Rattle.fir_loop.specs.working.IsCircle.{leaves_in}
use Rattle.fir_loop.proofs.circle.leaves_of.Given as goal

abbrev pub invariant-loop-read : goal.invariant-loop-read
invariant-loop-read l = l.found.items ++ leaves_in (drop l.read-index l.circle) ≡ leaves_in l.circle
