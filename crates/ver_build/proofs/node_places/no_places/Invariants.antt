use Rattle.std.proofs.Common.{◌≡◌, length}
use Rattle.ver_build.proofs.node_places.no_places.Given as goal

abbrev pub invariant-loop-node : goal.invariant-loop-node
invariant-loop-node l = length l.places.items ≡ l.node-index
