use Rattle.std.proofs.Common.{◌≡◌, map}
use Rattle.fir_drop_dead.specs.working.Moved.{moved_node}
use Rattle.fir_drop_dead.proofs.KeptPairs.{given, kept_pairs}
use Rattle.fir_drop_dead.proofs.kept_net.kept_nodes.Given as goal

abbrev pub invariant-loop-node : goal.invariant-loop-node
invariant-loop-node l = l.moved.items ≡ map (moved_node l.kept) (kept_pairs (map given l.yielded))
