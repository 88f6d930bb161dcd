use Rattle.fir_fold.specs.working.Walking.{IsWalked}
use Rattle.fir_fold.proofs.walk.walked.Given as goal

abbrev pub invariant-loop-vertex : goal.invariant-loop-vertex
invariant-loop-vertex l = IsWalked l.net l.order l.vertex-index l.walk
