use Rattle.std.proofs.Common.{◌≡◌, ℕ, ◌+◌, List, map, rules, sym, ap, ◌∙◌, subst, arith}
use Rattle.std.proofs.lemmas.Result.{on_ok_weaker}
use Rattle.fir_leaf.specs.working.NodeBlocks.{block_in, statement_in}
use Rattle.fir_driven.proofs.LeafViews.{when_view}
use Rattle.fir_merge.proofs.GrownTerms.{grows_more}
use Rattle.fir_drivers.specs.working.Slots.{Merges, slot_at}
use Rattle.fir_drivers.proofs.BelowBounds.{below_map, below_slot, bounds_later}
use Rattle.fir_drivers.proofs.LaterSettings.{set_below_later}
use Rattle.fir_drivers.proofs.SlotSteps.{below_put}
use Rattle.fir_drivers.proofs.StandingNodes.{value_is_below}
use Rattle.fir_drivers.proofs.StatementSizes.{block_size, size_of_item, statement_size}
use Rattle.fir_drivers.proofs.WalkedBlocks.{drive_walks, walks_end, walks_more}
use Rattle.fir_drivers.proofs.WalkedWhens.{listed, on_ok_both, when_walks}
use Rattle.fir_drivers.proofs.statements.+walk.Goals as goal

pub walk_block-walk-requires : goal.walk_block-walk-requires
walk_block-walk-requires t c =
    let nodes = c.args.setting.now.nodes.now in
    let goes = c.loop-statement.invariant.goes in
    let smaller =
    size_of_item nodes c.args.body.now c.loop-statement.statement-index c.statement-item.result c.loop-statement-test.true c.statement-item.is in
    (omega (arith, c.decreases, smaller), (set_below_later c.args.setting.now c.args.net.now c.loop-statement.net goes.grows c.requires.setting, goes.below))

pub walk_block-loop-statement-preserved : goal.walk_block-loop-statement-preserved
walk_block-loop-statement-preserved t c =
    let h = c.loop-statement.invariant in
    let goes = c.in_ok-walk.ensures.goes in
    record {
      goes = record {
        grows = grows_more c.args.net.now c.loop-statement.net c.walk.new.net h.goes.grows goes.grows;
        same_length = goes.same_length ∙ h.goes.same_length;
        below = goes.below;
      };
      walks = walks_more c.args.setting.now c.args.body.now c.loop-statement.statement-index c.args.depth c.statement-item.result c.args.net.now
          c.loop-statement.net c.walk.new.net c.args.slots.now.items c.loop-statement.slots.items c.walk.new.slots.items
          (map (λ v. v.items) c.args.lists.now.items) (map (λ v. v.items) c.loop-statement.lists.items) (map (λ v. v.items) c.walk.new.lists.items)
          c.loop-statement-test.true c.statement-item.is h.goes.grows h.walks c.in_ok-walk.ensures.walks;
    }

pub walk_block-returns-clause-walks : goal.walk_block-returns-clause-walks
walk_block-returns-clause-walks t c =
    walks_end c.args.setting.now c.args.body.now c.loop-statement.statement-index c.args.depth c.args.net.now c.loop-statement.net c.args.slots.now.items
    c.loop-statement.slots.items (map (λ v. v.items) c.args.lists.now.items) (map (λ v. v.items) c.loop-statement.lists.items) c.loop-statement-test.false
    c.loop-statement.invariant.walks

pub walk-returns-in-Drive-clause-walks : goal.walk-returns-in-Drive-clause-walks
walk-returns-in-Drive-clause-walks t c =
    rw c.in-Drive.is
    (on_ok_weaker c.drive_leaves.result
    (drive_walks c.args.setting.now c.in-Drive.drive c.args.depth c.args.net.now c.drive_leaves.new.net c.args.slots.now.items c.drive_leaves.new.slots.items
    (map (λ v. v.items) c.args.lists.now.items))
    c.drive_leaves.ensures.drives)

pub walk-walk_when-requires : goal.walk-walk_when-requires
walk-walk_when-requires t c =
    let same = ap (λ z. statement_size (statement_in c.args.setting.now.nodes.now z)) c.in-When.is in
    (omega (arith, c.decreases, same), (c.requires.setting, c.requires.slots))

pub walk-returns-in-When-clause-walks : goal.walk-returns-in-When-clause-walks
walk-returns-in-When-clause-walks t c = rw c.in-When.is c.walk_when.ensures.walks

pub walk_when-walk_block-requires : goal.walk_when-walk_block-requires
walk_when-walk_block-requires t c =
    let nodes = c.args.setting.now.nodes.now in
    let whole = ap statement_size (when_view nodes c.args.when.now) in
    let same = ap (λ ss. block_size (block_in nodes ss)) c.deref-3.ensures.value in
    (omega (arith, c.decreases, whole, same), (c.requires.setting, c.requires.slots))

pub walk_when-walk_block-requires-2 : goal.walk_when-walk_block-requires-2
walk_when-walk_block-requires-2 t c =
    let s = c.args.setting.now in
    let nodes = s.nodes.now in
    let goes = c.in_ok-walk_block.ensures.goes in
    let whole = ap statement_size (when_view nodes c.args.when.now) in
    let same = ap (λ ss. block_size (block_in nodes ss)) c.deref-8.ensures.value in
    let set = set_below_later s c.args.net.now c.walk_block.new.net goes.grows c.requires.setting in
    let before = bounds_later c.args.net.now c.walk_block.new.net c.args.slots.now.items goes.grows c.requires.slots in
    let back = c.put_back.ensures (slot_at c.args.slots.now.items s.nothing.now)
    (listed _ _ _ _ s.nothing.now _ _ c.deref-7.ensures.value c.in_ok-before.ensures c.deref.ensures.value
    (c.deref-2.ensures.value ∙ sym c.deref-6.ensures.value)) in (
      omega (arith, c.decreases, whole, same),
      (
        set,
        below_put _ c.walk_block.new.slots.items c.put_back.new.slots.items _ _ goes.below
            (λ x. below_slot _ c.args.slots.now.items s.nothing.now x before set.1) back,
      ),
    )

pub walk_when-merge-requires-clause-condition : goal.walk_when-merge-requires-clause-condition
walk_when-merge-requires-clause-condition t c =
    let s = c.args.setting.now in
    let one = c.in_ok-walk_block.ensures.goes.grows in
    let grows = grows_more c.args.net.now c.walk_block.new.net c.walk_block-2.new.net one c.in_ok-walk_block-2.ensures.goes.grows in
    let set = set_below_later s c.args.net.now c.walk_block-2.new.net grows c.requires.setting in
    rw c.value_at-condition.ensures (value_is_below _ s.nodes.now s.bounds.now s.nothing.now c.args.when.now.condition set.0 set.1)

pub walk_when-merge-requires-clause-first : goal.walk_when-merge-requires-clause-first
walk_when-merge-requires-clause-first t c =
    let s = c.args.setting.now in
    let goes = c.in_ok-walk_block.ensures.goes in
    let set = set_below_later s c.args.net.now c.walk_block.new.net goes.grows c.requires.setting in
    let are = listed _ _ _ _ s.nothing.now _ _ c.deref-12.ensures.value c.in_ok-first.ensures c.deref-4.ensures.value c.deref-5.ensures.value in
    let below = below_map _ _ c.take_list-targets.result.items (λ x. below_slot _ c.walk_block.new.slots.items s.nothing.now x goes.below set.1) in
    rw are (bounds_later c.walk_block.new.net c.walk_block-2.new.net _ c.in_ok-walk_block-2.ensures.goes.grows below)

pub walk_when-merge-requires-clause-second : goal.walk_when-merge-requires-clause-second
walk_when-merge-requires-clause-second t c =
    let s = c.args.setting.now in
    let goes = c.in_ok-walk_block-2.ensures.goes in
    let grows = grows_more c.args.net.now c.walk_block.new.net c.walk_block-2.new.net c.in_ok-walk_block.ensures.goes.grows goes.grows in
    let set = set_below_later s c.args.net.now c.walk_block-2.new.net grows c.requires.setting in
    let are = listed _ _ _ _ s.nothing.now _ _ c.deref-13.ensures.value c.in_ok-second.ensures c.deref-9.ensures.value c.deref-10.ensures.value in
    rw are (below_map _ _ c.take_list-targets.result.items (λ x. below_slot _ c.walk_block-2.new.slots.items s.nothing.now x goes.below set.1))

pub walk_when-returns-clause-goes : goal.walk_when-returns-clause-goes
walk_when-returns-clause-goes t c =
    let nothing = c.args.setting.now.nothing.now in
    let one = c.in_ok-walk_block.ensures.goes.grows in
    let grows = grows_more c.args.net.now c.walk_block.new.net c.walk_block-2.new.net one c.in_ok-walk_block-2.ensures.goes.grows in
    let targets = c.deref-11.ensures.value in
    let first = listed _ _ _ _ nothing _ _ c.deref-12.ensures.value c.in_ok-first.ensures c.deref-4.ensures.value (c.deref-5.ensures.value ∙ sym targets) in
    let second = listed _ _ _ _ nothing _ _ c.deref-13.ensures.value c.in_ok-second.ensures c.deref-9.ensures.value (c.deref-10.ensures.value ∙ sym targets) in
    let back = c.put_back.ensures (slot_at c.args.slots.now.items nothing)
    (listed _ _ _ _ nothing _ _ c.deref-7.ensures.value c.in_ok-before.ensures c.deref.ensures.value (c.deref-2.ensures.value ∙ sym c.deref-6.ensures.value)) in
    on_ok_both c.merge.result
    (λ below merges.
    let chosen = merges (slot_at c.walk_block.new.slots.items nothing) (slot_at c.walk_block-2.new.slots.items nothing) first second in
    record {
      grows = grows_more c.args.net.now c.walk_block-2.new.net c.merge.new.net grows chosen.grows;
      same_length = chosen.same_length ∙ c.in_ok-walk_block-2.ensures.goes.same_length ∙ back.same_length ∙ c.in_ok-walk_block.ensures.goes.same_length;
      below = below;
    })
    c.merge.ensures.below c.merge.ensures.merges

pub walk_when-returns-clause-walks : goal.walk_when-returns-clause-walks
walk_when-returns-clause-walks t c =
    let s = c.args.setting.now in
    let w = c.args.when.now in
    let nothing = s.nothing.now in
    let inner : c.in_ok-inner.inner ≡ c.args.depth + 1 = search rules in
    let targets = c.deref-11.ensures.value in
    let first = listed _ _ _ _ nothing _ _ c.deref-12.ensures.value c.in_ok-first.ensures c.deref-4.ensures.value (c.deref-5.ensures.value ∙ sym targets) in
    let second = listed _ _ _ _ nothing _ _ c.deref-13.ensures.value c.in_ok-second.ensures c.deref-9.ensures.value (c.deref-10.ensures.value ∙ sym targets) in
    let back = c.put_back.ensures (slot_at c.args.slots.now.items nothing)
    (listed _ _ _ _ nothing _ _ c.deref-7.ensures.value c.in_ok-before.ensures c.deref.ensures.value (c.deref-2.ensures.value ∙ sym c.deref-6.ensures.value)) in
    let puts = rw c.deref-6.ensures.value at back in
    let by_then = rw (c.deref-3.ensures.value, inner) at c.in_ok-walk_block.ensures.walks in
    let by_else = rw (c.deref-8.ensures.value, inner) at c.in_ok-walk_block-2.ensures.walks in
    on_ok_weaker c.merge.result
    (λ merges.
    let chosen = merges (slot_at c.walk_block.new.slots.items nothing) (slot_at c.walk_block-2.new.slots.items nothing) first second in
    when_walks s w c.args.depth c.args.net.now c.walk_block.new.net c.walk_block-2.new.net c.merge.new.net c.args.slots.now.items c.walk_block.new.slots.items
    c.put_back.new.slots.items c.walk_block-2.new.slots.items c.merge.new.slots.items c.take_list-targets.result.items c.value_at-condition.result
    (map (λ v. v.items) c.args.lists.now.items) (map (λ v. v.items) c.take_list-targets.new.lists.items) (map (λ v. v.items) c.walk_block.new.lists.items)
    (map (λ v. v.items) c.walk_block-2.new.lists.items) c.take_list-targets.ensures c.value_at-condition.ensures c.in_ok-walk_block.ensures.goes.grows
    c.in_ok-walk_block-2.ensures.goes.grows by_then puts by_else
    (subst
    (λ (xs : List ℕ).
    Merges c.walk_block-2.new.net c.merge.new.net c.walk_block-2.new.slots.items c.merge.new.slots.items c.value_at-condition.result xs
    (slot_at c.walk_block.new.slots.items nothing) (slot_at c.walk_block-2.new.slots.items nothing))
    targets chosen))
    c.merge.ensures.merges
