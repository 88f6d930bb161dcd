use Rattle.std.proofs.Common.{map, drop}
use Rattle.fir_meaning.specs.working.UndrivenChoices.{drives_any}
use Rattle.fir_leaf.specs.working.NodeBlocks.{block_in}
use Rattle.fir_drivers.specs.working.TargetLists.{AreUnmarked, Collects, StacksBlock}
use Rattle.fir_drivers.proofs.targets.+collect.Given as goal

abbrev pub invariant-collect_block-loop-index : goal.invariant-collect_block-loop-index
invariant-collect_block-loop-index l =
    AreUnmarked l.depths l.fn.marks.items
    → Collects l.depths l.depth (λ x. drives_any x (block_in l.nodes (drop l.index l.body)))
    (StacksBlock l.depths (block_in l.nodes (drop l.index l.body)) l.depth) l.marks.items (map (λ v. v.items) l.fn.lists.items)
    (map (λ v. v.items) l.lists.items) l.fn.driven.items l.driven.items
