use Rattle.std.proofs.Common.{◌∙◌, refl, ap, map}
use Rattle.fir_ast.specs.View.{fields_of}
use Rattle.fir_ast.specs.working.BundleText.{field_of}
use Rattle.fir_type_table.specs.working.Tables.{member_fields, shown_fields, types_of}
use Rattle.std.proofs.lemmas.List.{take_all}
use Rattle.fir_type_table.proofs.CopiedFields.{shown_member, field_shown, shown_are}
use Rattle.fir_type_table.proofs.GrowingLists.{map_grows}
use Rattle.fir_type_table.proofs.table.TypeTable.+copy.Goals as goal

pub written_fields-loop-member-preserved : goal.written_fields-loop-member-preserved
written_fields-loop-member-preserved t c =
    let ts = types_of c.args.self.now in
    let m = c.member-item.result in
    ap (map field_of) c.in_ok-push.ensures.items
    ∙ map_grows field_of (shown_member c.args.bare ts) c.loop-member.copies.items _ c.members-member-items.result.now c.loop-member.member-index m
    c.loop-member.invariant c.loop-member-test.true c.member-item.is
    (field_shown _ c.args.bare ts m refl refl c.in_ok-copy.ensures refl c.in_ok-ty.ensures)

pub written_fields-returns : goal.written_fields-returns
written_fields-returns t c =
    let ts = types_of c.args.self.now in
    let members = c.members-member-items.result.now in
    ap fields_of c.loop-member.invariant
    ∙ ap (λ l. fields_of (map (shown_member c.args.bare ts) l)) (take_all c.loop-member.member-index members c.loop-member-test.false)
    ∙ shown_are c.args.bare ts members ∙ ap (λ l. shown_fields c.args.bare (member_fields ts l)) c.members-member-items.ensures.members
