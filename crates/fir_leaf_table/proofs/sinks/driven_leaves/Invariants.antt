use Rattle.fir_leaf_table.proofs.DrivenWalks.{DrivenSoFar}
use Rattle.fir_leaf_table.proofs.sinks.driven_leaves.Given as goal

abbrev pub invariant-loop-position : goal.invariant-loop-position
invariant-loop-position l = DrivenSoFar l.frame l.position l.driven.items
