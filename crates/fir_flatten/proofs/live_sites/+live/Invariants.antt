use Rattle.std.proofs.Common.{drop, false}
use Rattle.fir_leaf.specs.working.NodeBlocks.{block_in}
use Rattle.fir_flatten.specs.working.LiveSites.{ListsBlock}
use Rattle.fir_flatten.proofs.live_sites.+live.Given as goal

abbrev pub invariant-list_block-loop-index : goal.invariant-list_block-loop-index
invariant-list_block-loop-index l = ListsBlock l.sought (block_in l.nodes (drop l.index l.body)) l.depth false l.fn.sites.items l.sites.items
