use Rattle.std.proofs.Common.{◌+◌, ◌-◌, arith, ◌≡◌, ◌∷◌, [], map, rules, ap, ◌∙◌}
use Rattle.std.proofs.lemmas.List.{map-append}
use Rattle.std.proofs.lemmas.Result.{on_ok_weaker}
use Rattle.fir_leaf.specs.working.NodeBlocks.{block_in}
use Rattle.fir_leaf.specs.working.Nodes.{node_term}
use Rattle.fir_driven.proofs.LeafViews.{when_view}
use Rattle.fir_drivers.proofs.DrivenLeaves.{drive_collects}
use Rattle.fir_drivers.proofs.CollectedBlocks.{collects_more, collects_none}
use Rattle.fir_drivers.proofs.CollectedWhens.{when_collects}
use Rattle.fir_drivers.proofs.targets.+collect.Goals as goal

pub collect_block-loop-index-init : goal.collect_block-loop-index-init
collect_block-loop-index-init t c = λ unmarked. collects_none _ c.args.nodes.now _ c.args.body.now _ _ _ unmarked

pub collect_block-loop-index-preserved : goal.collect_block-loop-index-preserved
collect_block-loop-index-preserved t c = λ unmarked.
    let rest = c.loop-index.invariant unmarked in
    let n = c.loop-index.index in
    collects_more c.args.depths.now c.args.nodes.now c.args.depth c.args.body.now (n - 1) n c.index-body-index.result _ _ _ _ _ _ _ _
    (omega (arith, c.loop-index-test.true)) (omega (arith, c.loop-index-test.true, c.loop-index.auto.index)) c.index-body-index.is rest
    (c.in_ok-collect.ensures rest.unmarked)

pub collect_block-returns : goal.collect_block-returns
collect_block-returns t c =
    let first : c.loop-index.index ≡ 0 = omega (arith, c.loop-index-test.false) in
    rw first at c.loop-index.invariant

pub collect-returns-in-Drive : goal.collect-returns-in-Drive
collect-returns-in-Drive t c =
    rw c.in-Drive.is
    (on_ok_weaker c.list_drive.result (λ listed unmarked. drive_collects _ _ _ _ _ _ _ _ unmarked listed) c.list_drive.ensures)

pub collect_when-returns : goal.collect_when-returns
collect_when-returns t c = λ unmarked.
    let w = c.args.when.now in
    let nodes = c.args.nodes.now in
    let own = c.in_ok-targets.targets in
    let inside = c.collect_block-2.new.lists.items in
    let inner : c.in_ok-inner.inner ≡ c.args.depth + 1 = search rules in
    let second = rw (inner, c.new-inside.ensures.items, c.deref.ensures.value) at (c.in_ok-collect_block.ensures unmarked) in
    let first = rw (inner, c.deref-2.ensures.value) at (c.in_ok-collect_block-2.ensures second.unmarked) in
    let takes = rw c.deref-3.ensures.value at (c.in_ok-targets.ensures first.unmarked) in
    rw (when_view nodes w)
    (when_collects c.args.depths.now c.args.depth w.place (node_term nodes w.condition) (block_in nodes w.then_block.items) (block_in nodes w.else_block.items)
    _ _ _ _ _ _ _ _ _ own.items _ _ second first takes (rw (← c.deref-4.ensures.value) c.in_ok-extend_from_slice.ensures.items)
    (ap (map (λ v. v.items)) c.in_ok-push.ensures.items ∙ map-append (λ v. v.items) inside (own ∷ [])))
