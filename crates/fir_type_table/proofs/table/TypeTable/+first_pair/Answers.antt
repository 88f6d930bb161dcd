use Rattle.std.proofs.Common.{min, ◌∙◌, sym, ap}
use Rattle.std.specs.Prelude.{Some, None}
use Rattle.fir_ast.specs.Types.{bundle, vector}
use Rattle.fir_meaning.specs.ConnectPairs.{partial_pairs}
use Rattle.fir_type_table.specs.working.First.{flip_of_first}
use Rattle.fir_type_table.specs.working.Found.{found_of}
use Rattle.fir_type_table.specs.working.Lefts.{left_leaves, left_field_leaves}
use Rattle.fir_type_table.specs.working.Tables.{made_of, member_fields, members_at, type_at, types_of}
use Rattle.fir_type_table.proofs.FirstFlips.{flip_in_first, flip_of_lefts, next_left_flip, flip_here, flip_passed, unequal_turns, left_flip_under}
use Rattle.fir_type_table.proofs.PairedLefts.{lefts_of_elements, lefts_of_fields}
use Rattle.fir_type_table.proofs.table.TypeTable.+first_pair.Goals as goal

pub first_pair_flip-returns-in-Bundle-Bundle : goal.first_pair_flip-returns-in-Bundle-Bundle
first_pair_flip-returns-in-Bundle-Bundle t c =
    let table = c.args.self.now in
    let ts = types_of table in
    let fs = member_fields ts (members_at table c.args.a.number) in
    let gs = member_fields ts (members_at table c.args.b.number) in
    let there = type_at ts c.args.b.number in
    let a_is = c.kind.ensures.made ∙ ap (λ k. made_of ts k (members_at table c.args.a.number)) c.in-Bundle-Bundle.is-0 in
    let b_is = c.in-Bundle-Bundle.ensures.made in
    c.first_pair_flip_in_bundle.ensures ∙ ap (λ y. flip_of_first (left_field_leaves fs y)) b_is ∙ ap flip_of_first (sym (lefts_of_fields fs gs))
    ∙ ap (λ y. flip_of_first (left_leaves (bundle fs) y)) (sym b_is) ∙ ap (λ x. flip_of_first (left_leaves x there)) (sym a_is)
    ∙ sym (flip_of_lefts (partial_pairs (type_at ts c.args.a.number) there))

pub first_pair_flip-returns-else-min-eq0 : goal.first_pair_flip-returns-else-min-eq0
first_pair_flip-returns-else-min-eq0 t c =
    let table = c.args.self.now in
    let ts = types_of table in
    let arm = c.in-Vector-Vector in
    let there = type_at ts c.args.b.number in
    let s = type_at ts arm.s.number in
    let u = type_at ts arm.t.number in
    let a_is = c.kind.ensures.made ∙ ap (λ k. made_of ts k (members_at table c.args.a.number)) arm.is-0 in
    let b_is = c.kind-2.ensures.made ∙ ap (λ k. made_of ts k (members_at table c.args.b.number)) arm.is-1 in
    c.first_pair_flip.ensures ∙ flip_of_lefts (partial_pairs s u)
    ∙ sym (flip_in_first (min arm.n arm.m) (left_leaves s u) (λ e. c.if-min-eq0.false (c.min.ensures ∙ e)))
    ∙ ap flip_of_first (sym (lefts_of_elements 0 (min arm.n arm.m) (partial_pairs s u)))
    ∙ ap (λ y. flip_of_first (left_leaves (vector s arm.n) y)) (sym b_is) ∙ ap (λ x. flip_of_first (left_leaves x there)) (sym a_is)
    ∙ sym (flip_of_lefts (partial_pairs (type_at ts c.args.a.number) there))

pub first_pair_flip_in_bundle-returns-in-Some : goal.first_pair_flip_in_bundle-returns-in-Some
first_pair_flip_in_bundle-returns-in-Some t c =
    flip_here _ _ _ c.in-Some.flip c.in-Some.ensures
    (next_left_flip (types_of c.args.self.now) (type_at (types_of c.args.self.now) c.args.b.number) c.members-member-items.result.now
    c.loop-member.member-index c.member-item.result _ c.loop-member.invariant c.loop-member-test.true c.member-item.is)

pub first_pair_flip_in_bundle-loop-member-preserved : goal.first_pair_flip_in_bundle-loop-member-preserved
first_pair_flip_in_bundle-loop-member-preserved t c =
    flip_passed _ _ _ c.in_default.ensures
    (next_left_flip (types_of c.args.self.now) (type_at (types_of c.args.self.now) c.args.b.number) c.members-member-items.result.now
    c.loop-member.member-index c.member-item.result _ c.loop-member.invariant c.loop-member-test.true c.member-item.is)

pub first_pair_flip_in_member-returns-in_err-flip : goal.first_pair_flip_in_member-returns-in_err-flip
first_pair_flip_in_member-returns-in_err-flip t c =
    let m = c.args.member.now in
    let ts = types_of c.args.self.now in
    c.from_residual-in_err-flip.ensures
    ∙ left_flip_under m.flip m.name (type_at ts m.ty.number) (type_at ts c.args.b.number) (found_of ts c.in_ok-other.other) None
    c.in_ok-other.ensures.found c.in_err-flip.ensures

pub first_pair_flip_in_member-returns : goal.first_pair_flip_in_member-returns
first_pair_flip_in_member-returns t c =
    let m = c.args.member.now in
    let ts = types_of c.args.self.now in
    let flip = c.in_ok-flip.flip in
    ap Some (unequal_turns flip m.flip)
    ∙ left_flip_under m.flip m.name (type_at ts m.ty.number) (type_at ts c.args.b.number) (found_of ts c.in_ok-other.other) (Some flip)
    c.in_ok-other.ensures.found c.in_ok-flip.ensures
