use Rattle.std.proofs.Common.{◌+◌, ◌<◌, ◌^◌, ◌++◌, length, refl, sym, ap, ◌∙◌, subst, arith}
use Rattle.std.proofs.lemmas.List.{append-nil}
use Rattle.std.specs.Prelude.{option_map}
use Rattle.fir_meaning.specs.SizedTypes.{fields_in, scalar, sized_named, sized_vector}
use Rattle.fir_meaning.specs.SizedMatches.{field_matches, matches, where_met}
use Rattle.fir_type_table.specs.working.Saturated.{saturated}
use Rattle.fir_type_table.specs.working.Tables.{made_of, members_at, type_at, types_of}
use Rattle.fir_types.specs.working.Seen.{field_seen, found_type}
use Rattle.fir_width.specs.declared.side.Side.{Side}
use Rattle.fir_infer_widths.specs.working.Meetings.{AreFields, asked_by}
use Rattle.fir_infer_widths.specs.working.Numbered.{Keeps}
use Rattle.fir_infer_widths.proofs.ArenaGrows.{marks_long}
use Rattle.fir_infer_widths.proofs.MeetLeaves.{IsLeafType, asked_same, found_leaf, kind_leaf, leaf_side, shown_leaf}
use Rattle.fir_infer_widths.proofs.MeetParts.{bundle_side, field_side, fields_met, no_field_met, vector_side}
use Rattle.fir_infer_widths.proofs.MeetFields.{all_met, none_met, one_met}
use Rattle.fir_infer_widths.proofs.meet.+meet.Goals as goal

pub meet-returns-in_default : goal.meet-returns-in_default
meet-returns-in_default t c = λ meant rules s other keeps one side.
    let ts = types_of c.args.table.now in
    let leaf = leaf_side ts meant c.args.left s one (found_leaf ts c.args.left.found c.in_default.not-Type) in
    asked_same c.meet_leaf.result meant rules (asked_by (matches c.args.turned (scalar leaf.kind leaf.width) other)) (asked_by (matches c.args.turned s other))
    c.meet_leaf.new.arena (ap (λ l. asked_by (matches c.args.turned l other)) (sym leaf.is))
    (c.meet_leaf.ensures meant rules leaf.kind leaf.width other keeps leaf.has side)

pub meet-returns-in_default-kind : goal.meet-returns-in_default-kind
meet-returns-in_default-kind t c = λ meant rules s other keeps one side.
    let ts = types_of c.args.table.now in
    let id = c.in-Type.id in
    let ms = members_at c.args.table.now id.number in
    let made = kind_leaf ts c.kind.result ms c.in_default-kind.not-Bundle c.in_default-kind.not-Vector in
    let held = shown_leaf c.in-Type.field-1 (type_at ts id.number) (subst IsLeafType (sym c.kind.ensures.made) made) in
    let leaf = leaf_side ts meant c.args.left s one (subst IsLeafType (sym (ap (found_type ts) c.in-Type.is)) held) in
    asked_same c.meet_leaf-in_default-kind.result meant rules (asked_by (matches c.args.turned (scalar leaf.kind leaf.width) other))
    (asked_by (matches c.args.turned s other)) c.meet_leaf-in_default-kind.new.arena (ap (λ l. asked_by (matches c.args.turned l other)) (sym leaf.is))
    (c.meet_leaf-in_default-kind.ensures meant rules leaf.kind leaf.width other keeps leaf.has side)

pub meet-returns-in-Bundle : goal.meet-returns-in-Bundle
meet-returns-in-Bundle t c = λ meant rules s other keeps one side.
    let ts = types_of c.args.table.now in
    let id = c.in-Type.id in
    let ms = members_at c.args.table.now id.number in
    let made = c.kind.ensures.made ∙ ap (λ k. made_of ts k ms) c.in-Bundle.is in
    let left = bundle_side ts meant c.args.left s c.in-Type.field-1 (type_at ts id.number) ms one (ap (found_type ts) c.in-Type.is) made in
    asked_same c.meet_fields.result meant rules (asked_by (field_matches c.args.turned left.fields (fields_in other))) (asked_by (matches c.args.turned s other))
    c.meet_fields.new.arena
    (ap asked_by (fields_met c.args.turned left.fields other) ∙ ap (λ l. asked_by (matches c.args.turned l other)) (sym left.is))
    (c.meet_fields.ensures meant rules left.fields other keeps left.are side)

pub meet-returns-in-Vector : goal.meet-returns-in-Vector
meet-returns-in-Vector t c = λ meant rules s other keeps one side.
    let ts = types_of c.args.table.now in
    let id = c.in-Type.id in
    let ms = members_at c.args.table.now id.number in
    let made = c.kind.ensures.made ∙ ap (λ k. made_of ts k ms) c.in-Vector.is in
    let left = vector_side ts meant c.args.left s c.in-Type.field-1 (type_at ts id.number) c.in-Vector.element c.in-Vector.length one (ap (found_type ts) c.in-Type.is) made in
    asked_same c.meet_elements.result meant rules (asked_by (matches c.args.turned (sized_vector left.part c.in-Vector.length) other))
    (asked_by (matches c.args.turned s other)) c.meet_elements.new.arena (ap (λ l. asked_by (matches c.args.turned l other)) (sym left.is))
    (c.meet_elements.ensures meant rules left.part other keeps left.side side)

pub meet_field-returns-in_default : goal.meet_field-returns-in_default
meet_field-returns-in_default t c = λ meant rules s other keeps one side.
    let ts = types_of c.args.table.now in
    let none = sym c.field.ensures.found ∙ ap (option_map (field_seen ts)) c.in_default.is in
    subst (λ l. Keeps meant (rules ++ asked_by l) c.args.arena.now)
    (no_field_met ts meant c.args.right other c.args.name.now (λ u. matches c.args.turned s u) side none)
    (subst (λ rs. Keeps meant rs c.args.arena.now) (sym (append-nil rules)) keeps)

pub meet_field-returns : goal.meet_field-returns
meet_field-returns t c = λ meant rules s other keeps one side.
    let ts = types_of c.args.table.now in
    let own : Side = record { found = c.in-Some.found.found; first = c.saturating_add.result } in
    let old = c.args.arena.now in
    let short : length meant < 2 ^ 64 = omega (arith, old.written.ok.0, marks_long meant old.written.items keeps.marks) in
    let first = c.saturating_add.ensures ∙ ap (λ o. saturated (c.args.right.first + o)) c.in-Some.ensures.shared_offset in
    let part = field_side ts meant c.args.right own other c.args.name.now (field_seen ts c.in-Some.found) short side (sym c.in-Some.ensures.found) refl first in
    asked_same c.meet.result meant rules (asked_by (matches c.args.turned s part.part))
    (asked_by (where_met (λ u. matches c.args.turned s u) (sized_named c.args.name.now (fields_in other)))) c.meet.new.arena
    (ap (λ o. asked_by (where_met (λ u. matches c.args.turned s u) o)) (sym part.named)) (c.meet.ensures meant rules s part.part keeps one part.is)

pub meet_fields-loop-member-init : goal.meet_fields-loop-member-init
meet_fields-loop-member-init t c =
    none_met (types_of c.args.table.now) c.args.arena.now c.args.turned c.args.first c.members-member-items.result.now c.args.right

pub meet_fields-loop-member-preserved : goal.meet_fields-loop-member-preserved
meet_fields-loop-member-preserved t c =
    let ts = types_of c.args.table.now in
    let m = c.member-item.result in
    let middle = c.loop-member.arena in
    let short : length middle.written.items < 2 ^ 64 = omega (arith, middle.written.ok.0) in
    let behind = c.saturating_add-next.ensures ∙ ap (λ n. saturated (c.loop-member.next + n)) c.shared_leaves.ensures in
    one_met ts c.args.arena.now middle c.meet_field.new.arena c.args.turned c.direction-way.result c.args.first c.members-member-items.result.now c.args.right
    c.loop-member.member-index c.loop-member.next c.saturating_add-next.result m c.loop-member.invariant c.loop-member-test.true c.member-item.is
    c.direction-way.ensures short behind c.in_ok-meet_field.ensures

pub meet_fields-returns : goal.meet_fields-returns
meet_fields-returns t c = λ meant rules fs other keeps are side.
    let ts = types_of c.args.table.now in
    let ms = c.members-member-items.result.now in
    all_met ts c.args.arena.now c.loop-member.arena c.args.turned c.args.first ms c.args.right c.loop-member.member-index c.loop-member.next meant rules fs other
    c.loop-member-test.false c.loop-member.invariant keeps (subst (λ l. AreFields ts meant c.args.first l fs) (sym c.members-member-items.ensures.members) are) side
