use Rattle.std.proofs.Common.{List, sym, subst, take, ◌+◌}
use Rattle.fir_base.proofs.Each.{all_at}
use Rattle.ver_sim.specs.declared.blocks.WriteTask.{WriteTask}
use Rattle.ver_sim.specs.working.Blocks.{IsSomeWrite, IsWriteTaskOf}
use Rattle.ver_sim.specs.working.Pairs.{EachPair}
use Rattle.ver_sim.proofs.PairLists.{in_at, pair_more}
use Rattle.ver_sim.proofs.block_tasks.write_tasks.Goals as goal

pub loop-write-preserved : goal.loop-write-preserved
loop-write-preserved c = λ v k all.
    let writes = c.args.writes.now in
    let i = c.loop-write.write-index in
    let write = c.write-item.result in
    let sound = all_at (IsSomeWrite v) writes all write (in_at writes i write c.loop-write-test.true c.write-item.is) in
    subst (λ (ts : List WriteTask). EachPair (IsWriteTaskOf v) ts (take (i + 1) writes)) (sym c.in_ok-push.ensures.items)
    (pair_more (IsWriteTaskOf v) c.loop-write.found.items writes i c.in_ok-task.task write c.loop-write-test.true c.write-item.is (c.loop-write.invariant v k all) (c.in_ok-task.ensures v k sound))
