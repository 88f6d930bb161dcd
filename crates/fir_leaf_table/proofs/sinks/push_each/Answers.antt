use Rattle.std.proofs.Common.{List, ◌++◌, map, ap, ◌∙◌}
use Rattle.std.proofs.lemmas.List.{take_all}
use Rattle.fir_types.specs.working.Seen.{flow_seen}
use Rattle.fir_leaf_table.specs.declared.type_leaves.TypeLeaf.{TypeLeaf}
use Rattle.fir_leaf_table.specs.working.DrivenLeaves.{may_be_driven}
use Rattle.fir_leaf_table.proofs.sinks.push_each.Goals as goal

pub returns : goal.returns
returns c =
    c.loop-leaf.invariant
    ∙ ap (λ (l : List TypeLeaf). c.args.driven.now.items ++ map (λ (x : TypeLeaf). may_be_driven (flow_seen c.args.flow) x.flip) l)
    (take_all c.loop-leaf.leaf-index c.args.leaves.now c.loop-leaf-test.false)
