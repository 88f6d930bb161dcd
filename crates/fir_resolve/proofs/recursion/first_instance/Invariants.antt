use Rattle.fir_resolve.proofs.FirstInstances.{NoneBefore}
use Rattle.fir_resolve.proofs.recursion.first_instance.Given as goal

abbrev pub invariant-loop-position : goal.invariant-loop-position
invariant-loop-position l = NoneBefore l.table l.other l.position
