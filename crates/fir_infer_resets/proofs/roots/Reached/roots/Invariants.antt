use Rattle.fir_infer_resets.specs.working.Reaching.{Roots}
use Rattle.fir_infer_resets.proofs.roots.Reached.roots.Given as goal

abbrev pub invariant-loop-node : goal.invariant-loop-node
invariant-loop-node l = Roots l.kinds l.reached l.node
