use Rattle.fir_infer_resets.specs.working.Walking.{Looking}
use Rattle.fir_infer_resets.proofs.search.look_around.Given as goal

abbrev pub invariant-loop-next : goal.invariant-loop-next
invariant-loop-next l = Looking l.graph l.kinds l.reached l.place l.node l.next-items l.next-index
