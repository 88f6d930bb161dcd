use Rattle.std.proofs.Common.{◌≡◌, ◌++◌, map, take}
use Rattle.fir_types.specs.working.Seen.{flow_seen}
use Rattle.fir_leaf_table.specs.declared.type_leaves.TypeLeaf.{TypeLeaf}
use Rattle.fir_leaf_table.specs.working.DrivenLeaves.{may_be_driven}
use Rattle.fir_leaf_table.proofs.sinks.push_each.Given as goal

abbrev pub invariant-loop-leaf : goal.invariant-loop-leaf
invariant-loop-leaf l =
    l.driven.items ≡ l.initial.driven.items ++ map (λ (x : TypeLeaf). may_be_driven (flow_seen l.flow) x.flip) (take l.leaf-index l.leaves)
