use Rattle.std.proofs.Common.{◌≡◌, ◌+◌, ◌*◌}
use Rattle.fir_meaning.specs.Equivalence.{fields_alike}
use Rattle.fir_type_table.specs.working.Tables.{member_fields, types_of}
use Rattle.fir_type_table.specs.working.Meetings.{scalar_test}
use Rattle.fir_type_table.proofs.MemberLists.{members_from}
use Rattle.fir_type_table.proofs.table.TypeTable.+alike.Given as goal

abbrev pub decreases-are_alike : goal.decreases-are_alike
decreases-are_alike l = 3 * l.a.number + 2

abbrev pub decreases-are_bundles_alike : goal.decreases-are_bundles_alike
decreases-are_bundles_alike l = 3 * l.a.number + 1

abbrev pub decreases-are_members_alike : goal.decreases-are_members_alike
decreases-are_members_alike l = 3 * l.f.now.ty.number + 3

abbrev pub invariant-are_bundles_alike-loop-i : goal.invariant-are_bundles_alike-loop-i
invariant-are_bundles_alike-loop-i l =
    fields_alike (scalar_test l.in_connect) (member_fields (types_of l.self) l.fs) (member_fields (types_of l.self) l.gs) ≡
    fields_alike (scalar_test l.in_connect) (members_from (types_of l.self) l.fs l.i) (members_from (types_of l.self) l.gs l.i)
