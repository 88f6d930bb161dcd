use Rattle.std.proofs.Common.{◌≡◌, map}
use Rattle.fir_drop_dead.specs.working.Moved.{moved_leaf}
use Rattle.fir_drop_dead.proofs.KeptPairs.{given, kept_pairs}
use Rattle.fir_drop_dead.proofs.kept_net.kept_leaves.Given as goal

abbrev pub invariant-loop-leaf : goal.invariant-loop-leaf
invariant-loop-leaf l = l.moved.items ≡ map (moved_leaf l.kept) (kept_pairs (map given l.yielded))
