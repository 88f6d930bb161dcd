use Rattle.std.proofs.Common.{◌≡◌, ◌++◌, map, take}
use Rattle.ver_build.specs.working.Places.{nowhere}
use Rattle.ver_build.proofs.node_places.put_nowhere.Given as goal

abbrev pub invariant-loop-leaf : goal.invariant-loop-leaf
invariant-loop-leaf l = l.places.items ≡ l.initial.places.items ++ map (λ k. nowhere) (take l.leaf-index l.leaves)
