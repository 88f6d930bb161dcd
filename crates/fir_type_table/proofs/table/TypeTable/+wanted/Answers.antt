use Rattle.std.proofs.Common.{◌≡◌, ℕ, length, Vec, Global, ◌∙◌, ap, arith}
use Rattle.fir_meaning.specs.LeafPaths.{element, named}
use Rattle.fir_meaning.specs.TypeLeaves.{type_leaves}
use Rattle.fir_type_table.specs.working.Tables.{type_at, types_of}
use Rattle.fir_type_table.specs.working.Wanted.{first_wanted, path_kept}
use Rattle.fir_type_table.proofs.WantedPaths.{found_here, passed_over, kept_behind, wanted_in_first}
use Rattle.fir_type_table.proofs.WantedFields.{next_wanted, in_flipped, in_straight}
use Rattle.fir_type_table.proofs.table.TypeTable.+wanted.Goals as goal
use Rattle.fir_type_table.proofs.table.TypeTable.+wanted.Goals.{find_in_member-then-member+in_ok-found, find_in_member-else-member+in_ok-found-2}

pub find_in_bundle-returns-then-branch : goal.find_in_bundle-returns-then-branch
find_in_bundle-returns-then-branch t c =
    let next = next_wanted c.args.straight c.args.flipped (types_of c.args.self.now) c.members-member-items.result.now c.loop-member.member-index
    c.member-item.result _ c.loop-member.invariant.left c.loop-member-test.true c.member-item.is in
    found_here c.args.path.now.items c.loop-member.path.items c.find_in_member.new.path.items c.in_ok-find_in_member.field-0 _ _ _
    c.loop-member.invariant.path_is c.if-branch.true next c.in_ok-find_in_member.ensures

pub find_in_bundle-loop-member-preserved : goal.find_in_bundle-loop-member-preserved
find_in_bundle-loop-member-preserved t c =
    let next = next_wanted c.args.straight c.args.flipped (types_of c.args.self.now) c.members-member-items.result.now c.loop-member.member-index
    c.member-item.result _ c.loop-member.invariant.left c.loop-member-test.true c.member-item.is in
    let passed = passed_over c.args.path.now.items c.loop-member.path.items c.find_in_member.new.path.items c.in_ok-find_in_member.field-0 _ _ _
    c.loop-member.invariant.path_is c.if-branch.false next c.in_ok-find_in_member.ensures in
    record { path_is = passed.0; left = passed.1 }

pub find_in_member-returns : goal.find_in_member-returns
find_in_member-returns t c =
    let m = c.args.member.now in
    let straight = c.args.straight in
    let flipped = c.args.flipped in
    let leaves = type_leaves (type_at (types_of c.args.self.now) m.ty.number) in
    let old = c.args.path.now.items in
    let before = c.len-before.result in
    let counted : before ≡ length old = omega (arith, c.args.path.now.ok.0, c.len-before.ensures) in
    elim c.if-member.branch [
      | find_in_member-then-member+in_ok-found w ↦
          let found = w.in_ok-found.found in
          let wanted = in_flipped straight flipped m.flip m.name leaves w.if-member.true in
          let last = c.kept.ensures.path ∙ ap (λ b. path_kept b before c.if-member.path.items) w.found-is
          ∙ ap (λ (v : Vec ℕ Global). path_kept found before v.items) w.path-is in
          kept_behind old c.put_field.new.path.items w.find_leaf.new.path.items c.kept.new.path.items before found c.kept.result (named m.name)
          (first_wanted flipped straight leaves) _ counted c.in_ok-put_field.ensures w.in_ok-found.ensures (c.kept.ensures.same ∙ w.found-is) last wanted
      | find_in_member-else-member+in_ok-found-2 w ↦
          let found = w.in_ok-found-2.found in
          let wanted = in_straight straight flipped m.flip m.name leaves w.if-member.false in
          let last = c.kept.ensures.path ∙ ap (λ b. path_kept b before c.if-member.path.items) w.found-is
          ∙ ap (λ (v : Vec ℕ Global). path_kept found before v.items) w.path-is in
          kept_behind old c.put_field.new.path.items w.find_leaf-else-member.new.path.items c.kept.new.path.items before found c.kept.result (named m.name)
          (first_wanted straight flipped leaves) _ counted c.in_ok-put_field.ensures w.in_ok-found-2.ensures (c.kept.ensures.same ∙ w.found-is) last wanted
    ]

pub find_leaf-returns-in_ok-found-in-Vector : goal.find_leaf-returns-in_ok-found-in-Vector
find_leaf-returns-in_ok-found-in-Vector t c =
    let ts = types_of c.args.self.now in
    let leaves = type_leaves (type_at ts c.in-Vector.element.number) in
    let wanted = ap (λ u. first_wanted c.args.straight c.args.flipped (type_leaves u)) c.in-Vector.ensures.made
    ∙ wanted_in_first c.args.straight c.args.flipped c.in-Vector.length leaves c.if-length-eq0.false in
    let counted : c.len-before.result ≡ length c.args.path.now.items = omega (arith, c.args.path.now.ok.0, c.len-before.ensures) in
    kept_behind c.args.path.now.items c.put_first_element.new.path.items c.find_leaf.new.path.items c.kept.new.path.items c.len-before.result
    c.in_ok-found-in-Vector.found c.kept.result (element 0) (first_wanted c.args.straight c.args.flipped leaves) _ counted
    c.in_ok-put_first_element-in-Vector.ensures c.in_ok-found-in-Vector.ensures c.kept.ensures.same c.kept.ensures.path wanted
