use Rattle.fir_leaf_pairs.proofs.Driving.{PairsSoFar}
use Rattle.fir_leaf_pairs.proofs.drive.drive_pairs.Given as goal

abbrev pub invariant-loop-pair : goal.invariant-loop-pair
invariant-loop-pair l = PairsSoFar l.fn.out.items l.out.items l.place l.left l.right l.gives l.gives_back l.pairs l.pair-index
