use Rattle.ver_sim.specs.working.Blocks.{block_puts}
use Rattle.ver_sim.proofs.FlatStates.{block_next}
use Rattle.ver_sim.proofs.blocks.take_blocks.Goals as goal

pub loop-block-preserved : goal.loop-block-preserved
loop-block-preserved c =
    block_next (block_puts c.args.named.now c.args.values.now) c.args.blocks.now c.loop-block.block-index _ _ _ _ c.loop-block-test.true c.block-item.is c.loop-block.invariant c.take_block.ensures
