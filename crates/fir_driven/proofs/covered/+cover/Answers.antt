use Rattle.std.proofs.Common.{◌+◌, ◌≡◌, rules}
use Rattle.std.proofs.lemmas.Result.{on_ok_weaker}
use Rattle.fir_leaf.specs.working.NodeBlocks.{block_in}
use Rattle.fir_leaf.specs.working.Nodes.{node_term}
use Rattle.fir_driven.proofs.CoveredBlocks.{covers_more}
use Rattle.fir_driven.proofs.CoveredStatements.{covers_by_list}
use Rattle.fir_driven.proofs.LeafViews.{when_view}
use Rattle.fir_driven.proofs.CoveredWhens.{when_covers}
use Rattle.fir_driven.proofs.covered.+cover.Goals as goal

pub cover-returns-in-Drive : goal.cover-returns-in-Drive
cover-returns-in-Drive t c =
    rw c.in-Drive.is
    (on_ok_weaker c.cover_drive.result (λ listed ready. covers_by_list _ _ _ _ _ _ ready (listed c.args.depths.now c.args.depth)) c.cover_drive.ensures)

pub cover_when-returns : goal.cover_when-returns
cover_when-returns t c =
    let w = c.args.when.now in
    let nodes = c.args.nodes.now in
    let inner : c.in_ok-inner.inner ≡ c.args.depth + 1 = search rules in
    let a = block_in nodes w.then_block.items in
    let b = block_in nodes w.else_block.items in
    rw (when_view nodes w)
    (on_ok_weaker c.join.result (λ joins ready.
    let first = rw (inner, c.new-first.ensures.items, c.deref.ensures.value) at (c.in_ok-cover_block.ensures ready) in
    let second = rw (inner, c.new-second.ensures.items, c.deref-2.ensures.value) at (c.in_ok-cover_block-2.ensures first.ready) in
    when_covers c.args.depths.now c.args.depth w.place (node_term nodes w.condition) a b _ _ _ _ _ _ _ _ first second
    (rw (c.deref-3.ensures.value, c.deref-4.ensures.value) at (joins second.ready)))
    c.join.ensures)

pub cover_block-loop-statement-preserved : goal.cover_block-loop-statement-preserved
cover_block-loop-statement-preserved t c = λ ready.
    let first = c.loop-statement.invariant ready in
    covers_more _ _ _ _ _ _ _ _ _ _ _ _ c.loop-statement-test.true c.statement-item.is first (c.in_ok-cover.ensures first.ready)
