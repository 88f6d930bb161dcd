use Rattle.fir_infer_resets.specs.working.Walking.{WalksTo}
use Rattle.fir_infer_resets.proofs.walk.walk_back.Given as goal

abbrev pub invariant-loop-nodes : goal.invariant-loop-nodes
invariant-loop-nodes l = WalksTo l.graph l.kinds l.reached.queue.items l.nodes.items l.place

abbrev pub decreases-loop-nodes : goal.decreases-loop-nodes
decreases-loop-nodes l = l.place
