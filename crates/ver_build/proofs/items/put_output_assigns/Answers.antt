use Rattle.std.proofs.Common.{ap, ◌∙◌}
use Rattle.fir_net_names.specs.working.LeafNamed.{name_at}
use Rattle.ver_ast.specs.declared.tree.Item.TheVariants as item
use Rattle.ver_build.specs.working.Built.{given, leaf_assign}
use Rattle.ver_build.proofs.Lists.{put_more}
use Rattle.ver_build.proofs.items.put_output_assigns.Goals as goal

pub loop-k-preserved : goal.loop-k-preserved
loop-k-preserved c =
    put_more (given item.Assign (leaf_assign c.args.places.now)) c.args.table.now.leaves c.as_slice-leaves.result.now c.loop-k.k
    c.index-leaves-k.result _ c.args.items.now.items _ _
    c.loop-k-test.true c.index-leaves-k.is (c.leaf.ensures ∙ ap (name_at c.args.table.now.leaves) c.new.ensures) c.loop-k.invariant
    c.in_ok-put_output_assign.ensures
