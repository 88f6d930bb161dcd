use Rattle.std.proofs.Common.{take}
use Rattle.fir_leaf.specs.working.NodeBlocks.{block_in}
use Rattle.fir_driven.specs.working.MissWalks.{MissesBlock}
use Rattle.fir_driven.proofs.choice.+miss.Given as goal

abbrev pub invariant-miss_block-loop-statement : goal.invariant-miss_block-loop-statement
invariant-miss_block-loop-statement l =
    MissesBlock l.asked (block_in l.nodes (take l.statement-index l.body)) l.depth l.told l.fn.outcomes.items l.outcomes.items
