use Rattle.std.proofs.Common.{◌≡◌}
use Rattle.fir_meaning.specs.TypeKinds.{are_passive}
use Rattle.fir_type_table.specs.working.Tables.{member_fields, types_of}
use Rattle.fir_type_table.proofs.MemberLists.{members_from}
use Rattle.fir_type_table.proofs.table.TypeTable.are_passive.Given as goal

abbrev pub invariant-loop-member : goal.invariant-loop-member
invariant-loop-member l = are_passive (member_fields (types_of l.self) l.members) ≡ are_passive (members_from (types_of l.self) l.members l.member-index)
