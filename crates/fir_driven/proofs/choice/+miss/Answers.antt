use Rattle.std.proofs.Common.{◌≡◌, ◌+◌, true, false, length, refl, sym, ◌∙◌, arith, rules}
use Rattle.fir_ast.specs.declared.fault.Outcome.TheVariants as outcome
use Rattle.fir_leaf.specs.working.Nodes.{node_term}
use Rattle.fir_leaf.specs.working.NodeBlocks.{block_in}
use Rattle.fir_driven.proofs.LeafViews.{when_view}
use Rattle.fir_driven.proofs.MissesInBlocks.{misses_more}
use Rattle.fir_driven.proofs.MissesInWhens.{back_to, misses_inner, misses_nowhere, misses_one, misses_zero}
use Rattle.fir_driven.proofs.choice.+miss.Goals as goal

pub miss_block-loop-statement-preserved : goal.miss_block-loop-statement-preserved
miss_block-loop-statement-preserved t c =
    misses_more c.args.asked c.args.nodes.now c.args.body.now c.loop-statement.statement-index c.args.depth c.statement-item.result c.loop-statement.told
    c.in_ok-next.next c.either-told.result c.args.outcomes.now.items c.loop-statement.outcomes.items c.miss.new.outcomes.items c.loop-statement-test.true
    c.statement-item.is c.loop-statement.invariant c.in_ok-next.ensures c.either-told.ensures.covered c.either-told.ensures.drives

pub miss-returns-in-Drive : goal.miss-returns-in-Drive
miss-returns-in-Drive t c = rw c.in-Drive.is (c.miss_drive.ensures c.args.depth)

pub miss_when-returns-then-depth-asked : goal.miss_when-returns-then-depth-asked
miss_when-returns-then-depth-asked t c =
    let nodes = c.args.nodes.now in
    let w = c.args.when.now in
    let inner : c.in_ok-inner.inner ≡ c.args.depth + 1 = search rules in
    let first = rw (c.deref.ensures.value, inner) at c.in_ok-first.ensures in
    let second = rw (c.deref-then-depth-asked.ensures.value, inner) at c.in_ok-second.ensures in
    rw (when_view nodes w)
    (misses_inner c.args.asked w.place (node_term nodes w.condition) (block_in nodes w.then_block.items) (block_in nodes w.else_block.items) c.args.depth
    c.in_ok-first.first c.in_ok-second.second c.either.result c.args.outcomes.now.items c.miss_block.new.outcomes.items
    c.miss_block-then-depth-asked.new.outcomes.items c.if-depth-asked.true first second c.either.ensures.covered c.either.ensures.drives)

pub miss_when-returns-then-second : goal.miss_when-returns-then-second
miss_when-returns-then-second t c =
    let nodes = c.args.nodes.now in
    let w = c.args.when.now in
    let before = c.args.outcomes.now.items in
    let inner : c.in_ok-inner.inner ≡ c.args.depth + 1 = search rules in
    let second = rw (c.deref-2.ensures.value, inner, c.in_ok-push.ensures.items) at c.in_ok-second-2.ensures in
    let start : length before ≡ c.len-start.result = omega arith in
    let back = c.truncate.ensures.items
    ∙ back_to before c.miss_block-2.new.outcomes.items second.added (outcome.When w.place false) c.len-start.result start second.grows in
    let first = rw (c.deref-then-second.ensures.value, inner, c.in_ok-push-2.ensures.items, back) at c.in_ok-first-2.ensures in
    rw (when_view nodes w)
    (misses_one c.args.asked w.place (node_term nodes w.condition) (block_in nodes w.then_block.items) (block_in nodes w.else_block.items) c.args.depth
    c.if-depth-asked.false c.in_ok-first-2.first (record { covered = c.in_ok-first-2.first.covered; drives = true }) before
    c.miss_block-then-second.new.outcomes.items (sym second.covered ∙ c.if-second.true) first refl refl)

pub miss_when-returns-then-not-drives : goal.miss_when-returns-then-not-drives
miss_when-returns-then-not-drives t c =
    let nodes = c.args.nodes.now in
    let w = c.args.when.now in
    let before = c.args.outcomes.now.items in
    let inner : c.in_ok-inner.inner ≡ c.args.depth + 1 = search rules in
    let second = rw (c.deref-2.ensures.value, inner, c.in_ok-push.ensures.items) at c.in_ok-second-2.ensures in
    let also = rw c.deref-3.ensures.value at c.in_ok-drives.ensures in
    let start : length before ≡ c.len-start.result = omega arith in
    let back = c.truncate-then-not-drives.ensures.items
    ∙ back_to before c.miss_block-2.new.outcomes.items second.added (outcome.When w.place false) c.len-start.result start second.grows in
    rw (back, when_view nodes w)
    (misses_nowhere c.args.asked w.place (node_term nodes w.condition) (block_in nodes w.then_block.items) (block_in nodes w.else_block.items) c.args.depth
    c.if-depth-asked.false c.in_ok-second-2.second (record { covered = false; drives = c.in_ok-drives.drives }) before c.miss_block-2.new.outcomes.items second
    c.if-second.false refl also c.if-not-drives.true)

pub miss_when-returns-else-not-drives : goal.miss_when-returns-else-not-drives
miss_when-returns-else-not-drives t c =
    let nodes = c.args.nodes.now in
    let w = c.args.when.now in
    let before = c.args.outcomes.now.items in
    let inner : c.in_ok-inner.inner ≡ c.args.depth + 1 = search rules in
    let second = rw (c.deref-2.ensures.value, inner, c.in_ok-push.ensures.items) at c.in_ok-second-2.ensures in
    let also = rw c.deref-3.ensures.value at c.in_ok-drives.ensures in
    rw (when_view nodes w)
    (misses_zero c.args.asked w.place (node_term nodes w.condition) (block_in nodes w.then_block.items) (block_in nodes w.else_block.items) c.args.depth
    c.if-depth-asked.false c.in_ok-second-2.second (record { covered = false; drives = c.in_ok-drives.drives }) before c.miss_block-2.new.outcomes.items second
    c.if-second.false refl also c.if-not-drives.false)
