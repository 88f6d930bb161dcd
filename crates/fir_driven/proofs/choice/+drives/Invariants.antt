use Rattle.std.proofs.Common.{◌≡◌, drop}
use Rattle.fir_meaning.specs.working.UndrivenChoices.{drives_any}
use Rattle.fir_leaf.specs.working.NodeBlocks.{block_in}
use Rattle.fir_driven.proofs.choice.+drives.Given as goal

abbrev pub invariant-drives_any-loop-statement : goal.invariant-drives_any-loop-statement
invariant-drives_any-loop-statement l =
    drives_any l.leaf (block_in l.nodes l.body) ≡ drives_any l.leaf (block_in l.nodes (drop l.statement-index l.body))
