use Rattle.std.proofs.Common.{◌≡◌, ◌+◌, ◌-◌, ◌&&◌, true, false, refl, rules, arith}
use Rattle.std.proofs.lemmas.Result.{IfOk-weaker}
use Rattle.fir_leaf.specs.working.NodeBlocks.{block_in}
use Rattle.fir_leaf.specs.working.Nodes.{node_term}
use Rattle.fir_driven.proofs.LeafViews.{when_view}
use Rattle.fir_flatten.proofs.ListedSites.{block_lists_all, block_lists_more}
use Rattle.fir_flatten.proofs.SitesOfStatements.{lists_inner, lists_outer, lists_second}
use Rattle.fir_flatten.proofs.live_sites.+live.Goals as goal

pub list_statement-returns-in-Drive : goal.list_statement-returns-in-Drive
list_statement-returns-in-Drive t c = rw c.in-Drive.is (c.list_drive.ensures c.args.depth)

pub list_block-loop-index-preserved : goal.list_block-loop-index-preserved
list_block-loop-index-preserved t c =
    let n = c.loop-index.index in
    let here = rw c.if-branch.false at c.in_ok-list_statement.ensures in
    block_lists_more c.args.sought c.args.nodes.now c.args.depth c.args.body.now (n - 1) n c.index-body-index.result false _ _ _
    (omega (arith, c.loop-index-test.true)) (omega (arith, c.loop-index-test.true, c.loop-index.auto.index)) c.index-body-index.is c.loop-index.invariant here

pub list_block-returns : goal.list_block-returns
list_block-returns t c =
    let first : c.loop-index.index ≡ 0 = omega (arith, c.loop-index-test.false) in
    rw first at c.loop-index.invariant

pub list_block-returns-then-branch : goal.list_block-returns-then-branch
list_block-returns-then-branch t c =
    let n = c.loop-index.index in
    let here = rw c.if-branch.true at c.in_ok-list_statement.ensures in
    block_lists_all c.args.sought c.args.nodes.now c.args.depth c.args.body.now (n - 1) _ _
    (block_lists_more c.args.sought c.args.nodes.now c.args.depth c.args.body.now (n - 1) n c.index-body-index.result true _ _ _
    (omega (arith, c.loop-index-test.true)) (omega (arith, c.loop-index-test.true, c.loop-index.auto.index)) c.index-body-index.is c.loop-index.invariant here)

pub list_when-returns-then-second : goal.list_when-returns-then-second
list_when-returns-then-second t c =
    let nodes = c.args.nodes.now in
    let w = c.args.when.now in
    let inner : c.in_ok-inner.inner ≡ c.args.depth + 1 = search rules in
    let second = rw (c.deref.ensures.value, inner, c.if-second.true) at c.in_ok-second.ensures in
    rw (when_view nodes w)
    (lists_second c.args.sought c.args.depth w.place (node_term nodes w.condition) (block_in nodes w.then_block.items) (block_in nodes w.else_block.items)
    c.if-depth-sought.true _ _ second)

pub list_when-returns-then-depth-sought : goal.list_when-returns-then-depth-sought
list_when-returns-then-depth-sought t c =
    let nodes = c.args.nodes.now in
    let w = c.args.when.now in
    let inner : c.in_ok-inner.inner ≡ c.args.depth + 1 = search rules in
    let second = rw (c.deref.ensures.value, inner, c.if-second.false) at c.in_ok-second.ensures in
    rw (when_view nodes w)
    (IfOk-weaker c.list_block-then-depth-sought.result _ _
    (λ covered first.
    lists_inner c.args.sought c.args.depth w.place (node_term nodes w.condition) (block_in nodes w.then_block.items) (block_in nodes w.else_block.items)
    c.if-depth-sought.true covered _ _ _ second first)
    (rw (c.deref-then-depth-sought.ensures.value, inner) at c.list_block-then-depth-sought.ensures))

pub list_when-returns-then-first : goal.list_when-returns-then-first
list_when-returns-then-first t c =
    let nodes = c.args.nodes.now in
    let w = c.args.when.now in
    let inner : c.in_ok-inner.inner ≡ c.args.depth + 1 = search rules in
    let second = rw (c.deref.ensures.value, inner) at c.in_ok-second.ensures in
    let first = rw (c.deref-2.ensures.value, inner) at c.in_ok-first.ensures in
    let told : c.in_ok-second.second ≡ (c.in_ok-first.first && c.in_ok-second.second) = rw c.if-first.true refl in
    rw (when_view nodes w)
    (lists_outer c.args.sought c.args.depth w.place (node_term nodes w.condition) (block_in nodes w.then_block.items) (block_in nodes w.else_block.items)
    c.if-depth-sought.false c.in_ok-first.first c.in_ok-second.second c.in_ok-second.second _ _ _ second first told)

pub list_when-returns-else-first : goal.list_when-returns-else-first
list_when-returns-else-first t c =
    let nodes = c.args.nodes.now in
    let w = c.args.when.now in
    let inner : c.in_ok-inner.inner ≡ c.args.depth + 1 = search rules in
    let second = rw (c.deref.ensures.value, inner) at c.in_ok-second.ensures in
    let first = rw (c.deref-2.ensures.value, inner) at c.in_ok-first.ensures in
    let told : c.in_ok-first.first ≡ (c.in_ok-first.first && c.in_ok-second.second) = rw c.if-first.false refl in
    rw (when_view nodes w)
    (lists_outer c.args.sought c.args.depth w.place (node_term nodes w.condition) (block_in nodes w.then_block.items) (block_in nodes w.else_block.items)
    c.if-depth-sought.false c.in_ok-first.first c.in_ok-second.second c.in_ok-first.first _ _ _ second first told)
