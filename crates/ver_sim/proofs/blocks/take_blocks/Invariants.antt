use Rattle.std.proofs.Common.{◌≡◌, drop}
use Rattle.ver_sim.specs.working.FlatStates.{flat_all}
use Rattle.ver_sim.specs.working.Blocks.{all_block_puts}
use Rattle.ver_sim.proofs.blocks.take_blocks.Given as goal

abbrev pub invariant-loop-block : goal.invariant-loop-block
invariant-loop-block l = flat_all (all_block_puts l.named l.values (drop l.block-index l.blocks)) l.state ≡ flat_all (all_block_puts l.named l.values l.blocks) l.fn.state
