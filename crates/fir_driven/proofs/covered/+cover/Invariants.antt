use Rattle.std.proofs.Common.{take}
use Rattle.fir_leaf.specs.working.NodeBlocks.{block_in}
use Rattle.fir_driven.specs.working.CoverWalks.{Covers, IsReady, is_covered_in}
use Rattle.fir_driven.proofs.covered.+cover.Given as goal

abbrev pub invariant-cover_block-loop-statement : goal.invariant-cover_block-loop-statement
invariant-cover_block-loop-statement l =
    IsReady l.depths l.fn.covering
    → Covers l.depths l.depth (is_covered_in l.depths (block_in l.nodes (take l.statement-index l.body)) l.depth) l.fn.covering l.covering l.fn.found.items
    l.found.items
