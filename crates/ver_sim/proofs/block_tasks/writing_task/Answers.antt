use Rattle.std.proofs.Common.{sym, subst}
use Rattle.std.specs.List.{AllByRecursion}
use Rattle.ver_sim.specs.working.Blocks.{IsSomeWrite, IsWriteTaskOf}
use Rattle.ver_sim.specs.working.Pairs.{EachPair}
use Rattle.ver_sim.proofs.BlockForms.{writing_is}
use Rattle.ver_sim.proofs.block_tasks.writing_task.Goals as goal

pub returns : goal.returns
returns c v k m all =
    let writes = c.in_ok-writes.writes in
    writing_is v c.args.block.now c.clock-clock.result writes (c.clock-clock.ensures v k m)
    (subst (EachPair (IsWriteTaskOf v) writes.items) c.as_slice.ensures
    (c.in_ok-writes.ensures v k (subst (AllByRecursion (IsSomeWrite v)) (sym c.as_slice.ensures) all)))
