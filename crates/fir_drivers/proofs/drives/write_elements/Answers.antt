use Rattle.std.proofs.Common.{◌≡◌, ◌+◌, refl, ap, ◌∙◌, rules, arith, take}
use Rattle.std.proofs.lemmas.List.{take_all}
use Rattle.fir_merge.proofs.GrownTerms.{below_later, grows_more, grows_none}
use Rattle.fir_drivers.specs.working.Slots.{slot_at}
use Rattle.fir_drivers.proofs.BelowBounds.{below_slot, bounds_later}
use Rattle.fir_drivers.proofs.SlotSteps.{below_become}
use Rattle.fir_drivers.proofs.WrittenElements.{condition_below, writes_more, writes_none}
use Rattle.fir_drivers.proofs.drives.write_elements.Goals as goal

pub loop-element-init : goal.loop-element-init
loop-element-init c = record {
  goes = record { grows = grows_none c.args.net.now; same_length = refl; below = c.requires.slots };
  writes = writes_none c.args.net.now c.args.slots.now.items c.args.leaf c.args.given.now;
}

pub add_choice-requires-clause-condition : goal.add_choice-requires-clause-condition
add_choice-requires-clause-condition c =
    below_later c.args.net.now c.loop-element.net c.element-item.result.condition.read c.loop-element.invariant.goes.grows
    (condition_below _ c.args.elements.now c.loop-element.element-index c.element-item.result c.requires.elements c.loop-element-test.true c.element-item.is)

pub add_choice-requires-clause-first : goal.add_choice-requires-clause-first
add_choice-requires-clause-first c = below_later c.args.net.now c.loop-element.net c.args.given.now.read c.loop-element.invariant.goes.grows c.requires.given

pub add_choice-requires-clause-second : goal.add_choice-requires-clause-second
add_choice-requires-clause-second c =
    rw (c.slot_at-before.ensures, c.deref.ensures.value)
    (below_slot _ c.loop-element.slots.items c.args.nothing.now _ c.loop-element.invariant.goes.below
    (below_later c.args.net.now c.loop-element.net c.args.nothing.now.read c.loop-element.invariant.goes.grows c.requires.nothing))

pub loop-element-preserved : goal.loop-element-preserved
loop-element-preserved c =
    let h = c.loop-element.invariant in
    let chosen = c.in_ok-chosen.chosen in
    let grown = c.in_ok-chosen.ensures.grown in
    record {
      goes = record {
        grows = grows_more c.args.net.now c.loop-element.net c.add_choice.new.net h.goes.grows grown.grows;
        same_length = c.set_slot.ensures.same_length ∙ h.goes.same_length;
        below = below_become _ c.loop-element.slots.items c.set_slot.new.slots.items _ chosen
            (bounds_later c.loop-element.net c.add_choice.new.net c.loop-element.slots.items grown.grows h.goes.below) grown.below c.set_slot.ensures;
      };
      writes =
          let at : c.in_ok-number.number ≡ c.args.leaf + c.element-item.result.offset = search rules in
          writes_more c.args.net.now c.loop-element.net c.add_choice.new.net c.args.slots.now.items c.loop-element.slots.items c.set_slot.new.slots.items
          c.args.leaf c.in_ok-number.number c.args.elements.now c.loop-element.element-index c.element-item.result c.args.given.now c.slot_at-before.result
          chosen c.args.nothing.now c.loop-element-test.true c.element-item.is at
          (c.slot_at-before.ensures ∙ ap (λ l. slot_at l c.args.nothing.now c.in_ok-number.number) c.deref.ensures.value)
          h.goes.grows grown.grows c.in_ok-chosen.ensures.stands c.set_slot.ensures h.writes;
    }

pub returns-clause-writes : goal.returns-clause-writes
returns-clause-writes c =
    let whole : take c.loop-element.element-index c.args.elements.now ≡ c.args.elements.now =
    take_all c.loop-element.element-index c.args.elements.now (omega arith) in
    rw whole at c.loop-element.invariant.writes
