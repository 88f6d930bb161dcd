use Rattle.std.proofs.Common.{ap}
use Rattle.ver_ast.specs.Nets.{item_block, plain_block, resetting_block, writing_block}
use Rattle.ver_sim.proofs.BlockForms.{block_known, block_put, some_writes}
use Rattle.ver_sim.proofs.block_tasks.put_block_task.Goals as goal

pub returns-in_ok-push-in-Always : goal.returns-in_ok-push-in-Always
returns-in_ok-push-in-Always c v k m =
    let b = c.in-Always.block in
    let e = ap item_block c.in-Always.is in
    block_put v c.args.item.now (plain_block b) c.in_ok-task-in-Always.task _ _ e c.in_ok-push-in-Always.ensures.items
    (c.in_ok-task-in-Always.ensures v k (block_known v c.args.item.now (plain_block b) m e k.valid))

pub returns-in_ok-push-in-Resetting : goal.returns-in_ok-push-in-Resetting
returns-in_ok-push-in-Resetting c v k m =
    let b = c.in-Resetting.block in
    let e = ap item_block c.in-Resetting.is in
    block_put v c.args.item.now (resetting_block b) c.in_ok-task-in-Resetting.task _ _ e c.in_ok-push-in-Resetting.ensures.items
    (c.in_ok-task-in-Resetting.ensures v k (block_known v c.args.item.now (resetting_block b) m e k.valid))

pub returns-in_ok-push-in-Writing : goal.returns-in_ok-push-in-Writing
returns-in_ok-push-in-Writing c v k m =
    let b = c.in-Writing.block in
    let e = ap item_block c.in-Writing.is in
    let sound = block_known v c.args.item.now (writing_block b) m e k.valid in
    block_put v c.args.item.now (writing_block b) c.in_ok-task-in-Writing.task _ _ e c.in_ok-push-in-Writing.ensures.items
    (c.in_ok-task-in-Writing.ensures v k sound.0 (some_writes v b.writes sound.1))
