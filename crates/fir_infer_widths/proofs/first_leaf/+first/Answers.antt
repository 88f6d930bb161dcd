use Rattle.std.proofs.Common.{◌≡◌, ◌+◌, length, ap, ◌∙◌, arith}
use Rattle.fir_meaning.specs.LeafPaths.{element, named}
use Rattle.fir_meaning.specs.SharedLeaves.{shared_count}
use Rattle.fir_type_table.specs.working.Tables.{type_at, types_of}
use Rattle.fir_type_table.proofs.MemberLists.{members_from}
use Rattle.fir_type_table.proofs.WantedPaths.{behind, found_here, passed_over, kept_behind}
use Rattle.fir_meaning.specs.working.AssignedWidths.{assigned}
use Rattle.fir_infer_widths.specs.working.FirstLeaves.{first_where, passes}
use Rattle.fir_infer_widths.specs.working.NumberedLeaves.{numbered_leaves}
use Rattle.fir_infer_widths.proofs.FirstLeaves.{below, where_under, where_same, where_in_first}
use Rattle.fir_infer_widths.proofs.FirstFields.{next_where, next_passes, passes_in_element}
use Rattle.fir_infer_widths.proofs.first_leaf.+first.Goals as goal

pub find_in_bundle-returns-then-branch : goal.find_in_bundle-returns-then-branch
find_in_bundle-returns-then-branch t c =
    let next = next_where (passes (assigned c.args.widths.now) c.args.test) (types_of c.args.table.now) c.members-member-items.result.now c.loop-member.member-index
    c.loop-member.number c.member-item.result _ c.loop-member.invariant.left c.loop-member-test.true c.member-item.is in
    found_here c.args.path.now.items c.loop-member.path.items c.find_in_member.new.path.items c.in_ok-find_in_member.field-0 _ _ _
    c.loop-member.invariant.path_is c.if-branch.true next c.in_ok-find_in_member.ensures

pub find_in_bundle-loop-member-preserved : goal.find_in_bundle-loop-member-preserved
find_in_bundle-loop-member-preserved t c =
    let ts = types_of c.args.table.now in
    let i = c.loop-member.member-index in
    let m = c.member-item.result in
    let next = next_where (passes (assigned c.args.widths.now) c.args.test) ts c.members-member-items.result.now i c.loop-member.number m _
    c.loop-member.invariant.left c.loop-member-test.true c.member-item.is in
    let passed = passed_over c.args.path.now.items c.loop-member.path.items c.find_in_member.new.path.items c.in_ok-find_in_member.field-0 _ _ _
    c.loop-member.invariant.path_is c.if-branch.false next c.in_ok-find_in_member.ensures in
    record {
      path_is = passed.0;
      left = passed.1
          ∙ next_passes c.args.widths.now c.args.test c.loop-member.number (shared_count (type_at ts m.ty.number)) c.shared_leaves.result c.saturating_add-number.result
          (omega arith) c.shared_leaves.ensures c.saturating_add-number.ensures (members_from ts c.members-member-items.result.now (i + 1));
    }

pub find_in_member-returns : goal.find_in_member-returns
find_in_member-returns t c =
    let m = c.args.member.now in
    let leaves = numbered_leaves c.args.first (type_at (types_of c.args.table.now) m.ty.number) in
    let counted : c.len-before.result ≡ length c.args.path.now.items = omega (arith, c.args.path.now.ok.0, c.len-before.ensures) in
    let under = where_under (passes (assigned c.args.widths.now) c.args.test) m.flip (named m.name) leaves
    ∙ ap (behind (named m.name)) (where_same (below m.flip (named m.name) (passes (assigned c.args.widths.now) c.args.test)) (passes (assigned c.args.widths.now) c.within.result) (λ l. c.within.ensures (assigned c.args.widths.now) (named m.name) l) leaves) in
    kept_behind c.args.path.now.items c.put_field.new.path.items c.find_leaf.new.path.items c.kept.new.path.items c.len-before.result c.in_ok-found.found
    c.kept.result (named m.name) (first_where (passes (assigned c.args.widths.now) c.within.result) leaves) _ counted c.in_ok-put_field.ensures c.in_ok-found.ensures c.kept.ensures.same
    c.kept.ensures.path under

pub find_leaf-returns-in_ok-found-in-Vector : goal.find_leaf-returns-in_ok-found-in-Vector
find_leaf-returns-in_ok-found-in-Vector t c =
    let test = passes (assigned c.args.widths.now) c.args.test in
    let leaves = numbered_leaves c.args.first (type_at (types_of c.args.table.now) c.in-Vector.element.number) in
    let found = ap (λ u. first_where test (numbered_leaves c.args.first u)) c.in-Vector.ensures.made
    ∙ passes_in_element (assigned c.args.widths.now) c.args.test c.in-Vector.length leaves c.if-length-eq0.false in
    let counted : c.len-before.result ≡ length c.args.path.now.items = omega (arith, c.args.path.now.ok.0, c.len-before.ensures) in
    kept_behind c.args.path.now.items c.put_element.new.path.items c.find_leaf.new.path.items c.kept.new.path.items c.len-before.result
    c.in_ok-found-in-Vector.found c.kept.result (element 0) (first_where test leaves) _ counted c.in_ok-put_element-in-Vector.ensures
    c.in_ok-found-in-Vector.ensures c.kept.ensures.same c.kept.ensures.path found
