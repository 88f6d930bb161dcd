use Rattle.std.proofs.Common.{◌≡◌, List, ◌++◌, drop, length}
use Rattle.fir_leaf.specs.declared.node.Node.{Node}
use Rattle.fir_leaf_table.specs.working.Givers.{given_from}
use Rattle.fir_leaf_circuit.specs.working.Seen.{leaves_seen}
use Rattle.fir_leaf_table.proofs.push.push_leaves.Given as goal

abbrev pub invariant-loop-k : goal.invariant-loop-k
invariant-loop-k l = record {
  so_far :
      (nodes : List Node) → l.initial.walk.no_node ≡ length nodes
      → leaves_seen nodes l.walk.leaves.items ++ given_from nodes l.initial.walk.declared l.depth l.places l.giver l.k (drop l.k l.leaf-items)
      ≡ leaves_seen nodes l.initial.walk.leaves.items ++ given_from nodes l.initial.walk.declared l.depth l.places l.giver 0 l.leaf-items;
  stays : l.walk ≡ record l.initial.walk { leaves = l.walk.leaves };
}
