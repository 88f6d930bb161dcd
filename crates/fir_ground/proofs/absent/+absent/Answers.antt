use Rattle.std.proofs.Common.{◌≡◌, suc, ◌+◌, ◌-◌, ap, sym, ◌∙◌, subst, arith}
use Rattle.fir_type_table.specs.working.Tables.{member_fields, members_at, shown, shown_fields, type_at, types_of}
use Rattle.fir_ground.specs.working.Absent.{Adds, absent_element_terms, absent_field_terms, absent_terms}
use Rattle.fir_ground.proofs.Absents.{AddsSoFar, adds_begin, adds_end, adds_none, adds_next, adds_same, bundle_terms, elements_next, fields_end, fields_left, fields_next, grown_picks, grown_within, no_elements, vector_terms}
use Rattle.fir_ground.proofs.absent.+absent.Goals as goal

pub add_elements-returns-then-leaves-eq0 : goal.add_elements-returns-then-leaves-eq0
add_elements-returns-then-leaves-eq0 t c =
    let nodes = c.args.nodes.now.items in
    let ids = c.args.ids.now.items in
    let e = type_at (types_of c.args.table.now) c.args.element.number in
    λ ps within picks.
    subst (λ ts. Adds nodes nodes ids ids ts) (sym (no_elements ps c.args.length c.args.is_bare e (sym c.leaves.ensures ∙ c.if-leaves-eq0.true))) (adds_none nodes ids)

pub add_elements-loop-init : goal.add_elements-loop-init
add_elements-loop-init t c =
    let e = shown c.args.is_bare (type_at (types_of c.args.table.now) c.args.element.number) in
    let all : c.args.length ≡ c.args.length - 0 = omega arith in
    λ ps within picks.
    subst (λ n. AddsSoFar c.args.nodes.now.items c.args.nodes.now.items c.args.ids.now.items c.args.ids.now.items (absent_element_terms ps c.args.length e) (absent_element_terms ps n e)) all
    (adds_begin c.args.nodes.now.items c.args.ids.now.items (absent_element_terms ps c.args.length e))

pub add_elements-loop-preserved : goal.add_elements-loop-preserved
add_elements-loop-preserved t c =
    let nodes = c.args.nodes.now.items in
    let ids = c.args.ids.now.items in
    let n = c.args.length in
    let k = c.loop.counter in
    let e = shown c.args.is_bare (type_at (types_of c.args.table.now) c.args.element.number) in
    let less : suc (n - (k + 1)) ≡ n - k = omega arith in
    λ ps within picks.
    let whole = absent_element_terms ps n e in
    let so_far = c.loop.invariant ps within picks in
    let left = absent_element_terms ps (n - (k + 1)) e in
    adds_next nodes c.loop.nodes.items c.add_type.new.nodes.items ids c.loop.ids.items c.add_type.new.ids.items whole (absent_terms ps e) left
    (subst (λ ts. AddsSoFar nodes c.loop.nodes.items ids c.loop.ids.items whole ts) (elements_next ps (n - k) (n - (k + 1)) e less) so_far)
    (c.in_ok-add_type.ensures ps (grown_within nodes c.loop.nodes.items ids c.loop.ids.items whole (absent_element_terms ps (n - k) e) c.args.picks so_far within)
    (grown_picks nodes c.loop.nodes.items ids c.loop.ids.items whole (absent_element_terms ps (n - k) e) c.args.picks ps so_far within picks))

pub add_elements-returns : goal.add_elements-returns
add_elements-returns t c =
    let n = c.args.length in
    let e = shown c.args.is_bare (type_at (types_of c.args.table.now) c.args.element.number) in
    let none : n - c.loop.counter ≡ 0 = omega arith in
    λ ps within picks.
    adds_end c.args.nodes.now.items c.loop.nodes.items c.args.ids.now.items c.loop.ids.items (absent_element_terms ps n e) (absent_element_terms ps (n - c.loop.counter) e)
    (c.loop.invariant ps within picks) (ap (λ m. absent_element_terms ps m e) none)

pub add_members-loop-member-init : goal.add_members-loop-member-init
add_members-loop-member-init t c =
    λ ps within picks.
    adds_begin c.args.nodes.now.items c.args.ids.now.items
    (absent_field_terms ps (shown_fields c.args.is_bare (member_fields (types_of c.args.table.now) c.members-member-items.result.now)))

pub add_members-loop-member-preserved : goal.add_members-loop-member-preserved
add_members-loop-member-preserved t c =
    let nodes = c.args.nodes.now.items in
    let ids = c.args.ids.now.items in
    let ts = types_of c.args.table.now in
    let ms = c.members-member-items.result.now in
    let i = c.loop-member.member-index in
    let m = c.member-item.result in
    λ ps within picks.
    let whole = absent_field_terms ps (shown_fields c.args.is_bare (member_fields ts ms)) in
    let so_far = c.loop-member.invariant ps within picks in
    adds_next nodes c.loop-member.nodes.items c.add_type.new.nodes.items ids c.loop-member.ids.items c.add_type.new.ids.items whole
    (absent_terms ps (shown c.args.is_bare (type_at ts m.ty.number))) (fields_left ts c.args.is_bare ps ms (i + 1))
    (subst (λ us. AddsSoFar nodes c.loop-member.nodes.items ids c.loop-member.ids.items whole us)
    (fields_next ts c.args.is_bare ps ms i m c.loop-member-test.true c.member-item.is) so_far)
    (c.in_ok-add_type.ensures ps (grown_within nodes c.loop-member.nodes.items ids c.loop-member.ids.items whole (fields_left ts c.args.is_bare ps ms i) c.args.picks so_far within)
    (grown_picks nodes c.loop-member.nodes.items ids c.loop-member.ids.items whole (fields_left ts c.args.is_bare ps ms i) c.args.picks ps so_far within picks))

pub add_members-returns : goal.add_members-returns
add_members-returns t c =
    let ts = types_of c.args.table.now in
    let ms = c.members-member-items.result.now in
    let i = c.loop-member.member-index in
    λ ps within picks.
    subst
    (λ l. Adds c.args.nodes.now.items c.loop-member.nodes.items c.args.ids.now.items c.loop-member.ids.items (absent_field_terms ps (shown_fields c.args.is_bare (member_fields ts l))))
    c.members-member-items.ensures.members
    (adds_end c.args.nodes.now.items c.loop-member.nodes.items c.args.ids.now.items c.loop-member.ids.items
    (absent_field_terms ps (shown_fields c.args.is_bare (member_fields ts ms))) (fields_left ts c.args.is_bare ps ms i) (c.loop-member.invariant ps within picks)
    (fields_end ts c.args.is_bare ps ms i c.loop-member-test.false))

pub add_type-returns-in-Bundle : goal.add_type-returns-in-Bundle
add_type-returns-in-Bundle t c =
    let ts = types_of c.args.table.now in
    let fs = member_fields ts (members_at c.args.table.now c.args.id.number) in
    λ ps within picks.
    adds_same c.add_members.result c.args.nodes.now.items c.add_members.new.nodes.items c.args.ids.now.items c.add_members.new.ids.items
    (absent_field_terms ps (shown_fields c.args.is_bare fs)) (absent_terms ps (shown c.args.is_bare (type_at ts c.args.id.number)))
    (bundle_terms ps c.args.is_bare (type_at ts c.args.id.number) fs c.in-Bundle.ensures.made) (c.add_members.ensures ps within picks)

pub add_type-returns-in-Vector : goal.add_type-returns-in-Vector
add_type-returns-in-Vector t c =
    let ts = types_of c.args.table.now in
    let e = type_at ts c.in-Vector.element.number in
    λ ps within picks.
    adds_same c.add_elements.result c.args.nodes.now.items c.add_elements.new.nodes.items c.args.ids.now.items c.add_elements.new.ids.items
    (absent_element_terms ps c.in-Vector.length (shown c.args.is_bare e)) (absent_terms ps (shown c.args.is_bare (type_at ts c.args.id.number)))
    (vector_terms ps c.args.is_bare (type_at ts c.args.id.number) e c.in-Vector.length c.in-Vector.ensures.made) (c.add_elements.ensures ps within picks)
