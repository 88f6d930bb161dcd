use Rattle.std.proofs.Common.{◌≡◌, ◌++◌, map, take, None}
use Rattle.ver_build.proofs.reset_nets.put_none.Given as goal

abbrev pub invariant-loop-leaf : goal.invariant-loop-leaf
invariant-loop-leaf l = l.names.items ≡ l.initial.names.items ++ map (λ k. None) (take l.leaf-index l.leaves)
