use Rattle.fir_expand.proofs.WalkedInstances.{InstancesSoFar}
use Rattle.fir_expand.proofs.module_costs.instance_costs.Given as goal

abbrev pub invariant-loop-position : goal.invariant-loop-position
invariant-loop-position l = InstancesSoFar l.names l.costs l.position l.sum
