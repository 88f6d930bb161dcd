use Rattle.std.proofs.Common.{◌≡◌, true, List, [], length, sym, ap, ◌∙◌, subst}
use Rattle.std.proofs.lemmas.Bool.{eq-eqb, eqb-true}
use Rattle.std.proofs.lemmas.Result.{on_ok_weaker}
use Rattle.std.proofs.lemmas.List.{nil_from_length}
use Rattle.fir_merge.specs.declared.elements.Element.{Element}
use Rattle.fir_merge.specs.declared.index.Index.{Index}
use Rattle.fir_merge.specs.working.Elements.{ElementsBelow}
use Rattle.fir_merge.specs.working.Entries.{IndicesBelow, IndicesStand}
use Rattle.fir_merge.proofs.GrownTerms.{below_later, grows_more}
use Rattle.fir_drivers.specs.working.Walks.{WritesElements}
use Rattle.fir_drivers.proofs.BelowBounds.{bounds_later}
use Rattle.fir_drivers.proofs.LeafDrives.{drives_each, drives_one}
use Rattle.fir_drivers.proofs.SlotSteps.{below_become}
use Rattle.fir_drivers.proofs.drives.drive_leaves.Goals as goal

pub returns-then-is_empty-clause-goes : goal.returns-then-is_empty-clause-goes
returns-then-is_empty-clause-goes c =
    let grown = c.in_ok-given.ensures.grown in
    record {
      grows = grown.grows;
      same_length = c.set_slot.ensures.same_length;
      below = below_become _ c.args.slots.now.items c.set_slot.new.slots.items c.args.drive.now.leaf c.in_ok-given.given
          (bounds_later c.args.net.now c.given.new.net c.args.slots.now.items grown.grows c.requires.slots) grown.below c.set_slot.ensures;
    }

pub returns-then-is_empty-clause-drives : goal.returns-then-is_empty-clause-drives
returns-then-is_empty-clause-drives c =
    let indices = c.in_ok-indices.indices in
    let none : length indices.items ≡ 0 = sym indices.ok.0 ∙ eqb-true _ _ (sym c.is_empty.ensures ∙ c.if-is_empty.true) in
    drives_one c.args.setting.now c.args.drive.now indices.items c.in_ok-indices.ensures.stand c.args.net.now c.given.new.net c.args.slots.now.items
    c.set_slot.new.slots.items c.in_ok-given.given c.in_ok-given.ensures.grown.grows (nil_from_length indices.items none) c.in_ok-given.ensures.stands
    c.set_slot.ensures

pub add_elements-requires : goal.add_elements-requires
add_elements-requires c =
    let grown = c.in_ok-given.ensures.grown in
    subst (λ (is : List Index). IndicesBelow (length c.given.new.net) is) (sym c.deref.ensures.value)
    (c.in_ok-indices.ensures.below (length c.given.new.net)
    (bounds_later c.args.net.now c.given.new.net c.args.setting.now.bounds.now grown.grows c.requires.setting.0))

pub write_elements-requires-clause-slots : goal.write_elements-requires-clause-slots
write_elements-requires-clause-slots c =
    bounds_later c.args.net.now c.add_elements.new.net c.args.slots.now.items
    (grows_more c.args.net.now c.given.new.net c.add_elements.new.net c.in_ok-given.ensures.grown.grows c.in_ok-elements.ensures.0) c.requires.slots

pub write_elements-requires-clause-elements : goal.write_elements-requires-clause-elements
write_elements-requires-clause-elements c =
    subst (λ (es : List Element). ElementsBelow (length c.add_elements.new.net) es) (sym c.deref-2.ensures.value) c.in_ok-elements.ensures.1

pub write_elements-requires-clause-given : goal.write_elements-requires-clause-given
write_elements-requires-clause-given c =
    below_later c.given.new.net c.add_elements.new.net c.in_ok-given.given.read c.in_ok-elements.ensures.0 c.in_ok-given.ensures.grown.below

pub write_elements-requires-clause-nothing : goal.write_elements-requires-clause-nothing
write_elements-requires-clause-nothing c =
    let grows = grows_more c.args.net.now c.given.new.net c.add_elements.new.net c.in_ok-given.ensures.grown.grows c.in_ok-elements.ensures.0 in
    below_later c.args.net.now c.add_elements.new.net c.args.setting.now.nothing.now.read grows c.requires.setting.1

pub returns-clause-goes : goal.returns-clause-goes
returns-clause-goes c =
    let later = c.add_elements.new.net in
    let grows = grows_more c.args.net.now c.given.new.net later c.in_ok-given.ensures.grown.grows c.in_ok-elements.ensures.0 in
    on_ok_weaker c.write_elements.result
    (λ goes.
    record { grows = grows_more c.args.net.now later c.write_elements.new.net grows goes.grows; same_length = goes.same_length; below = goes.below })
    c.write_elements.ensures.goes

pub returns-clause-drives : goal.returns-clause-drives
returns-clause-drives c =
    let indices = c.in_ok-indices.indices in
    let some : indices.items ≡ [] → ⊥ = λ e.
    let none : c.is_empty.result ≡ true = c.is_empty.ensures ∙ eq-eqb _ _ (indices.ok.0 ∙ ap length e) in cc (none, c.if-is_empty.false) in
    on_ok_weaker c.write_elements.result
    (λ writes.
    drives_each c.args.setting.now c.args.drive.now indices.items c.in_ok-indices.ensures.stand c.args.net.now c.given.new.net c.add_elements.new.net
    c.write_elements.new.net c.args.slots.now.items c.write_elements.new.slots.items c.in_ok-given.given c.in_ok-elements.elements.items
    c.in_ok-given.ensures.grown.grows c.in_ok-elements.ensures.0 some c.in_ok-given.ensures.stands
    (λ holds ps stand.
    c.in_ok-elements.ensures.2 holds ps (subst (λ (is : List Index). IndicesStand holds c.given.new.net is ps) (sym c.deref.ensures.value) stand))
    (subst
    (λ (es : List Element).
    WritesElements c.add_elements.new.net c.write_elements.new.net c.args.slots.now.items c.write_elements.new.slots.items c.args.drive.now.leaf es
    c.in_ok-given.given)
    c.deref-2.ensures.value writes))
    c.write_elements.ensures.writes
