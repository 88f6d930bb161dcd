use Rattle.std.proofs.Common.{List, map, ap, subst, ◌∙◌}
use Rattle.std.specs.Prelude.{flat_map}
use Rattle.fir_base.specs.Lists.{In}
use Rattle.ver_ast.specs.declared.tree.Item.{Item}
use Rattle.ver_ast.specs.Nets.{item_block, block_reset}
use Rattle.ver_ast.specs.Processes.{showing}
use Rattle.ver_sim.specs.working.Tasks.{IsTaskOf}
use Rattle.ver_sim.proofs.PairLists.{in_at, loop_more, loop_done, map_parts, list_parts}
use Rattle.ver_sim.proofs.processes.put_reset_tasks.Goals as goal

pub loop-item-preserved : goal.loop-item-preserved
loop-item-preserved c =
    let v = c.args.v.now in
    let items = c.as_slice-item-items.result.now in
    let item = c.item-item.result in
    let known = subst (λ (xs : List Item). In xs item) c.as_slice-item-items.ensures (in_at items c.loop-item.item-index item c.loop-item-test.true c.item-item.is) in
    loop_more (IsTaskOf v) (λ (i : Item). map showing (flat_map block_reset (item_block i))) items c.loop-item.item-index item _ _ _ c.loop-item-test.true c.item-item.is c.loop-item.invariant
    (c.in_ok-put_reset_task.ensures v c.requires known)

pub returns : goal.returns
returns c =
    let v = c.args.v.now in
    let items = c.as_slice-item-items.result.now in
    loop_done (IsTaskOf v) (λ (i : Item). map showing (flat_map block_reset (item_block i))) items c.loop-item.item-index _ _ _ c.loop-item-test.false
    (ap (flat_map (λ (i : Item). map showing (flat_map block_reset (item_block i)))) c.as_slice-item-items.ensures ∙ map_parts showing (λ (i : Item). flat_map block_reset (item_block i)) v.items ∙ ap (map showing) (list_parts block_reset item_block v.items)) c.loop-item.invariant
