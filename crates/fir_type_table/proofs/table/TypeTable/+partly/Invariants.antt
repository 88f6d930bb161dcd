use Rattle.std.proofs.Common.{◌≡◌, ◌+◌, ◌*◌}
use Rattle.fir_type_table.specs.working.Tables.{member_fields, members_at, type_at, types_of}
use Rattle.fir_type_table.specs.working.Meetings.{fields_partly_met}
use Rattle.fir_type_table.proofs.MemberLists.{members_from}
use Rattle.fir_type_table.proofs.table.TypeTable.+partly.Given as goal

abbrev pub decreases-fit_partly : goal.decreases-fit_partly
decreases-fit_partly l = 3 * l.a.number + 2

abbrev pub decreases-fields_fit_partly : goal.decreases-fields_fit_partly
decreases-fields_fit_partly l = 3 * l.a.number + 1

abbrev pub decreases-field_fits_partly : goal.decreases-field_fits_partly
decreases-field_fits_partly l = 3 * l.member.now.ty.number + 3

abbrev pub invariant-fields_fit_partly-loop-member : goal.invariant-fields_fit_partly-loop-member
invariant-fields_fit_partly-loop-member l =
    fields_partly_met (member_fields (types_of l.self) (members_at l.self l.fn.a.number)) (type_at (types_of l.self) l.b.number) ≡
    fields_partly_met (members_from (types_of l.self) l.member-items l.member-index) (type_at (types_of l.self) l.b.number)
