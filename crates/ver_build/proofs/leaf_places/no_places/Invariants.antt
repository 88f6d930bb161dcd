use Rattle.std.proofs.Common.{◌≡◌, length}
use Rattle.ver_build.proofs.leaf_places.no_places.Given as goal

abbrev pub invariant-loop-leaf : goal.invariant-loop-leaf
invariant-loop-leaf l = length l.places.items ≡ l.leaf-index
