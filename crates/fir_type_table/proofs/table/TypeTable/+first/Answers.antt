use Rattle.std.proofs.Common.{◌∙◌, sym, ap}
use Rattle.fir_meaning.specs.TypeLeaves.{type_leaves}
use Rattle.fir_type_table.specs.working.First.{flip_of_first}
use Rattle.fir_type_table.specs.working.Tables.{type_at, types_of}
use Rattle.fir_type_table.proofs.FirstFlips.{flip_in_first, next_flip, flip_here, flip_passed}
use Rattle.fir_type_table.proofs.table.TypeTable.+first.Goals as goal

pub first_flip-returns-else-length-eq0 : goal.first_flip-returns-else-length-eq0
first_flip-returns-else-length-eq0 t c =
    let leaves = type_leaves (type_at (types_of c.args.self.now) c.in-Vector.element.number) in
    c.first_flip.ensures ∙ sym (flip_in_first c.in-Vector.length leaves c.if-length-eq0.false)
    ∙ ap (λ u. flip_of_first (type_leaves u)) (sym c.in-Vector.ensures.made)

pub first_flip_in_bundle-returns-in-Some : goal.first_flip_in_bundle-returns-in-Some
first_flip_in_bundle-returns-in-Some t c =
    flip_here _ _ _ c.in-Some.flip c.in-Some.ensures
    (next_flip (types_of c.args.self.now) c.members-member-items.result.now c.loop-member.member-index c.member-item.result _
    c.loop-member.invariant c.loop-member-test.true c.member-item.is)

pub first_flip_in_bundle-loop-member-preserved : goal.first_flip_in_bundle-loop-member-preserved
first_flip_in_bundle-loop-member-preserved t c =
    flip_passed _ _ _ c.in_default.ensures
    (next_flip (types_of c.args.self.now) c.members-member-items.result.now c.loop-member.member-index c.member-item.result _
    c.loop-member.invariant c.loop-member-test.true c.member-item.is)
