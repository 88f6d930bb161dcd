use Rattle.ver_sim.specs.working.Blocks.{write_puts}
use Rattle.ver_sim.proofs.FlatStates.{block_next}
use Rattle.ver_sim.proofs.blocks.take_writes.Goals as goal

pub loop-write-preserved : goal.loop-write-preserved
loop-write-preserved c =
    block_next (write_puts c.args.values.now) c.args.writes.now c.loop-write.write-index _ _ _ _ c.loop-write-test.true c.write-item.is
    c.loop-write.invariant c.take_write.ensures
