use Rattle.std.proofs.Common.{◌≡◌, ℕ, ◌||◌, take}
use Rattle.fir_meaning.specs.working.TermReads.{is_among}
use Rattle.fir_meaning.specs.working.UndrivenChoices.{drives_any}
use Rattle.fir_leaf.specs.working.NodeBlocks.{block_in}
use Rattle.fir_driven.proofs.driven.+list.Given as goal

abbrev pub invariant-list_block-loop-statement : goal.invariant-list_block-loop-statement
invariant-list_block-loop-statement l =
    (x : ℕ) → is_among l.driven.items x ≡ (is_among l.fn.driven.items x || drives_any x (block_in l.nodes (take l.statement-index l.body)))
