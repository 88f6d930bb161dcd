use Rattle.std.proofs.Common.{◌≡◌, map}
use Rattle.fir_flatten.proofs.ListedLeaves.{SoFar, given}
use Rattle.fir_flatten.proofs.flat_leaves.flat_leaves.Given as goal

abbrev pub invariant-loop-leaf : goal.invariant-loop-leaf
invariant-loop-leaf l = record {
  places : l.kept.places.items ≡ l.fn.kept.places.items;
  so_far : SoFar l.fn.kept.places.items l.port_leaves l.fn.kept.nodes.items l.kept.nodes.items (map given l.yielded) l.leaves.items;
}
