use Rattle.std.proofs.Common.{arith}
use Rattle.fir_merge.proofs.GrownTerms.{below_later, grows_more}
use Rattle.fir_drivers.proofs.BelowBounds.{below_read, bounds_later}
use Rattle.fir_drivers.proofs.SlotSteps.{below_become, merges_at}
use Rattle.fir_drivers.proofs.slots.merge.Goals as goal

pub add_choice-requires-clause-condition : goal.add_choice-requires-clause-condition
add_choice-requires-clause-condition c =
    below_later c.args.net.now c.loop-place.net c.args.condition.now.read c.loop-place.invariant.grows c.requires.condition

pub add_choice-requires-clause-first : goal.add_choice-requires-clause-first
add_choice-requires-clause-first c =
    below_later c.args.net.now c.loop-place.net c.index-first-place.result.read c.loop-place.invariant.grows
    (below_read _ c.args.first.now c.loop-place.place c.index-first-place.result c.requires.first (omega arith) c.index-first-place.is)

pub add_choice-requires-clause-second : goal.add_choice-requires-clause-second
add_choice-requires-clause-second c =
    below_later c.args.net.now c.loop-place.net c.index-second-place.result.read c.loop-place.invariant.grows
    (below_read _ c.args.second.now c.loop-place.place c.index-second-place.result c.requires.second (omega arith) c.index-second-place.is)

pub loop-place-preserved : goal.loop-place-preserved
loop-place-preserved c =
    let h = c.loop-place.invariant in
    let chosen = c.in_ok-chosen.chosen in
    let grown = c.in_ok-chosen.ensures.grown in
    record {
      grows = grows_more c.args.net.now c.loop-place.net c.add_choice.new.net h.grows grown.grows;
      below = below_become _ c.loop-place.slots.items c.set_slot.new.slots.items _ chosen
          (bounds_later c.loop-place.net c.add_choice.new.net c.loop-place.slots.items grown.grows h.below) grown.below c.set_slot.ensures;
      merges = λ f g first second.
          merges_at c.args.net.now c.loop-place.net c.add_choice.new.net c.args.slots.now.items c.loop-place.slots.items c.set_slot.new.slots.items
          c.args.condition.now chosen c.args.leaves.now c.args.first.now c.args.second.now c.loop-place.place 0 c.index-first-place.result
          c.index-second-place.result f g (omega arith) first second c.index-first-place.is c.index-second-place.is (h.merges f g first second) grown.grows
          c.in_ok-chosen.ensures.stands c.set_slot.ensures;
    }
