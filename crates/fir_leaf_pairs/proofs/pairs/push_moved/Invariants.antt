use Rattle.std.proofs.Common.{◌≡◌, ◌-◌, ◌++◌, map, take, drop}
use Rattle.fir_leaf_pairs.specs.working.Pairing.{moved}
use Rattle.fir_leaf_pairs.proofs.pairs.push_moved.Given as goal

abbrev pub invariant-loop-k : goal.invariant-loop-k
invariant-loop-k l = l.pairs.items ≡ l.fn.pairs.items ++ map (moved l.left l.right) (take (l.k - l.start) (drop l.start l.fn.pairs.items))
