use Rattle.std.proofs.Common.{◌≡◌, map, take}
use Rattle.fir_drop_dead.specs.working.Moved.{moved_leaf_number}
use Rattle.fir_drop_dead.proofs.kept_net.moved_state.Given as goal

abbrev pub invariant-loop-leaf : goal.invariant-loop-leaf
invariant-loop-leaf l = l.moved.items ≡ map (moved_leaf_number l.kept) (take l.leaf-index l.state)
