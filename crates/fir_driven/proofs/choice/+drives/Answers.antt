use Rattle.std.proofs.Common.{◌+◌, ◌||◌, drop, sym, ap, ◌∙◌}
use Rattle.std.proofs.lemmas.List.{at_drop_more}
use Rattle.fir_leaf.specs.working.NodeBlocks.{block_in, statement_in}
use Rattle.fir_meaning.specs.working.UndrivenChoices.{drives, drives_any}
use Rattle.fir_driven.proofs.choice.+drives.Goals as goal

pub drives_any-returns-then-branch : goal.drives_any-returns-then-branch
drives_any-returns-then-branch t c =
    let leaf = c.args.leaf in
    let nodes = c.args.nodes.now in
    let body = c.args.body.now in
    let i = c.loop-statement.statement-index in
    let rest = drives_any leaf (block_in nodes (drop (i + 1) body)) in
    sym (c.loop-statement.invariant ∙ at_drop_more (λ ss. drives_any leaf (block_in nodes ss)) body i c.statement-item.result c.loop-statement-test.true
    ∙ ap (λ s. drives leaf (statement_in nodes s) || rest) (sym c.statement-item.is)
    ∙ ap (λ found. found || rest) (sym c.in_ok-drives.ensures ∙ c.if-branch.true))
