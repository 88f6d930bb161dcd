use Rattle.std.proofs.Common.{◌≡◌, ℕ, min, length, Vec, Global, ◌∙◌, sym, ap, subst, arith}
use Rattle.fir_ast.specs.Types.{bundle, vector}
use Rattle.fir_meaning.specs.LeafPaths.{element, named}
use Rattle.fir_meaning.specs.ConnectPairs.{partial_pairs}
use Rattle.fir_type_table.specs.working.Tables.{made_of, member_fields, members_at, type_at, types_of}
use Rattle.fir_type_table.specs.working.Found.{found_of}
use Rattle.fir_type_table.specs.working.Wanted.{IsPathFound, first_wanted, path_kept}
use Rattle.fir_type_table.specs.working.Lefts.{left_leaves, left_field_leaves}
use Rattle.fir_type_table.proofs.WantedPaths.{found_here, passed_over, kept_behind, wanted_in_first}
use Rattle.fir_type_table.proofs.WantedFields.{next_left_wanted, left_under_is, in_flipped, in_straight}
use Rattle.fir_type_table.proofs.PairedLefts.{lefts_of_elements, lefts_of_fields}
use Rattle.fir_type_table.proofs.table.TypeTable.+partial.Goals as goal
use Rattle.fir_type_table.proofs.table.TypeTable.+partial.Goals.{find_in_partial_member-then-member+in_ok-found, find_in_partial_member-else-member+in_ok-found-2}

pub find_in_partial_bundle-returns-then-branch : goal.find_in_partial_bundle-returns-then-branch
find_in_partial_bundle-returns-then-branch t c =
    let next = next_left_wanted c.args.straight c.args.flipped (types_of c.args.self.now)
    (type_at (types_of c.args.self.now) c.args.b.number) c.members-member-items.result.now c.loop-member.member-index
    c.member-item.result _ c.loop-member.invariant.left c.loop-member-test.true c.member-item.is in
    found_here c.args.path.now.items c.loop-member.path.items c.find_in_partial_member.new.path.items c.in_ok-find_in_partial_member.field-0 _ _ _
    c.loop-member.invariant.path_is c.if-branch.true next c.in_ok-find_in_partial_member.ensures

pub find_in_partial_bundle-loop-member-preserved : goal.find_in_partial_bundle-loop-member-preserved
find_in_partial_bundle-loop-member-preserved t c =
    let next = next_left_wanted c.args.straight c.args.flipped (types_of c.args.self.now)
    (type_at (types_of c.args.self.now) c.args.b.number) c.members-member-items.result.now c.loop-member.member-index
    c.member-item.result _ c.loop-member.invariant.left c.loop-member-test.true c.member-item.is in
    let passed = passed_over c.args.path.now.items c.loop-member.path.items c.find_in_partial_member.new.path.items c.in_ok-find_in_partial_member.field-0 _ _ _
    c.loop-member.invariant.path_is c.if-branch.false next c.in_ok-find_in_partial_member.ensures in
    record { path_is = passed.0; left = passed.1 }

pub find_in_partial_member-returns : goal.find_in_partial_member-returns
find_in_partial_member-returns t c =
    let m = c.args.member.now in
    let straight = c.args.straight in
    let flipped = c.args.flipped in
    let ts = types_of c.args.self.now in
    let other = c.in-Some.other in
    let here = type_at ts m.ty.number in
    let there = type_at ts c.args.b.number in
    let leaves = left_leaves here (type_at ts other.ty.number) in
    let met_is = left_under_is m.flip m.name here there (found_of ts other) c.in-Some.ensures.found in
    let old = c.args.path.now.items in
    let before = c.len-before.result in
    let counted : before ≡ length old = omega (arith, c.args.path.now.ok.0, c.len-before.ensures) in
    elim c.if-member.branch [
      | find_in_partial_member-then-member+in_ok-found w ↦
          let found = w.in_ok-found.found in
          let wanted = ap (first_wanted straight flipped) met_is ∙ in_flipped straight flipped m.flip m.name leaves w.if-member.true in
          let last = c.kept.ensures.path ∙ ap (λ b. path_kept b before c.if-member.path.items) w.found-is
          ∙ ap (λ (v : Vec ℕ Global). path_kept found before v.items) w.path-is in
          kept_behind old c.put_field.new.path.items w.find_partial_leaf.new.path.items c.kept.new.path.items before found c.kept.result (named m.name)
          (first_wanted flipped straight leaves) _ counted c.in_ok-put_field.ensures w.in_ok-found.ensures (c.kept.ensures.same ∙ w.found-is) last wanted
      | find_in_partial_member-else-member+in_ok-found-2 w ↦
          let found = w.in_ok-found-2.found in
          let wanted = ap (first_wanted straight flipped) met_is ∙ in_straight straight flipped m.flip m.name leaves w.if-member.false in
          let last = c.kept.ensures.path ∙ ap (λ b. path_kept b before c.if-member.path.items) w.found-is
          ∙ ap (λ (v : Vec ℕ Global). path_kept found before v.items) w.path-is in
          kept_behind old c.put_field.new.path.items w.find_partial_leaf-else-member.new.path.items c.kept.new.path.items before found c.kept.result (named m.name)
          (first_wanted straight flipped leaves) _ counted c.in_ok-put_field.ensures w.in_ok-found-2.ensures (c.kept.ensures.same ∙ w.found-is) last wanted
    ]

pub find_partial_leaf-returns-in_ok-found-in-Vector-Vector : goal.find_partial_leaf-returns-in_ok-found-in-Vector-Vector
find_partial_leaf-returns-in_ok-found-in-Vector-Vector t c =
    let table = c.args.self.now in
    let ts = types_of table in
    let arm = c.in-Vector-Vector in
    let a_is = c.kind.ensures.made ∙ ap (λ k. made_of ts k (members_at table c.args.a.number)) arm.is-0 in
    let b_is = c.kind-2.ensures.made ∙ ap (λ k. made_of ts k (members_at table c.args.b.number)) arm.is-1 in
    let s = type_at ts arm.s.number in
    let u = type_at ts arm.t.number in
    let leaves = left_leaves s u in
    let wanted = ap (λ x. first_wanted c.args.straight c.args.flipped (left_leaves x (type_at ts c.args.b.number))) a_is
    ∙ ap (λ y. first_wanted c.args.straight c.args.flipped (left_leaves (vector s arm.n) y)) b_is
    ∙ ap (first_wanted c.args.straight c.args.flipped) (lefts_of_elements 0 (min arm.n arm.m) (partial_pairs s u))
    ∙ wanted_in_first c.args.straight c.args.flipped (min arm.n arm.m) leaves (λ e. c.if-min-eq0.false (c.min.ensures ∙ e)) in
    let counted : c.len-before.result ≡ length c.args.path.now.items = omega (arith, c.args.path.now.ok.0, c.len-before.ensures) in
    kept_behind c.args.path.now.items c.put_first_element.new.path.items c.find_partial_leaf.new.path.items c.kept.new.path.items c.len-before.result
    c.in_ok-found-in-Vector-Vector.found c.kept.result (element 0) (first_wanted c.args.straight c.args.flipped leaves) _ counted
    c.in_ok-put_first_element-in-Vector-Vector.ensures c.in_ok-found-in-Vector-Vector.ensures c.kept.ensures.same c.kept.ensures.path wanted

pub find_partial_leaf-returns-in_ok-find_in_partial_bundle-in-Bundle-Bundle : goal.find_partial_leaf-returns-in_ok-find_in_partial_bundle-in-Bundle-Bundle
find_partial_leaf-returns-in_ok-find_in_partial_bundle-in-Bundle-Bundle t c =
    let table = c.args.self.now in
    let ts = types_of table in
    let straight = c.args.straight in
    let flipped = c.args.flipped in
    let fs = member_fields ts (members_at table c.args.a.number) in
    let gs = member_fields ts (members_at table c.args.b.number) in
    let a_is = c.kind.ensures.made ∙ ap (λ k. made_of ts k (members_at table c.args.a.number)) c.in-Bundle-Bundle.is-0 in
    let b_is = c.kind-2.ensures.made ∙ ap (λ k. made_of ts k (members_at table c.args.b.number)) c.in-Bundle-Bundle.is-1 in
    let wanted = ap (λ x. first_wanted straight flipped (left_leaves x (type_at ts c.args.b.number))) a_is
    ∙ ap (λ y. first_wanted straight flipped (left_leaves (bundle fs) y)) b_is
    ∙ ap (first_wanted straight flipped) (lefts_of_fields fs gs)
    ∙ ap (λ y. first_wanted straight flipped (left_field_leaves fs y)) (sym b_is) in
    subst (λ o. IsPathFound c.args.path.now.items c.find_in_partial_bundle.new.path.items c.in_ok-find_in_partial_bundle-in-Bundle-Bundle.field-0 o)
    (sym wanted) c.in_ok-find_in_partial_bundle-in-Bundle-Bundle.ensures
