use Rattle.std.proofs.Common.{List, ap, subst}
use Rattle.std.specs.Prelude.{flat_map}
use Rattle.fir_base.specs.Lists.{In}
use Rattle.ver_ast.specs.declared.tree.Item.{Item}
use Rattle.ver_ast.specs.Nets.{item_block}
use Rattle.ver_sim.specs.working.Blocks.{IsBlockTaskOf}
use Rattle.ver_sim.proofs.PairLists.{in_at, loop_more, loop_done}
use Rattle.ver_sim.proofs.block_tasks.put_block_tasks.Goals as goal

pub loop-item-preserved : goal.loop-item-preserved
loop-item-preserved c =
    let v = c.args.v.now in
    let items = c.as_slice-item-items.result.now in
    let item = c.item-item.result in
    let known = subst (λ (xs : List Item). In xs item) c.as_slice-item-items.ensures (in_at items c.loop-item.item-index item c.loop-item-test.true c.item-item.is) in
    loop_more (IsBlockTaskOf v) (item_block) items c.loop-item.item-index item _ _ _ c.loop-item-test.true c.item-item.is c.loop-item.invariant
    (c.in_ok-put_block_task.ensures v c.requires known)

pub returns : goal.returns
returns c =
    let v = c.args.v.now in
    let items = c.as_slice-item-items.result.now in
    loop_done (IsBlockTaskOf v) (item_block) items c.loop-item.item-index _ _ _ c.loop-item-test.false
    (ap (flat_map (item_block)) c.as_slice-item-items.ensures) c.loop-item.invariant
