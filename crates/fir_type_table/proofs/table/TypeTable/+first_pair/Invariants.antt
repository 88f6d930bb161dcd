use Rattle.std.proofs.Common.{◌≡◌, ◌+◌, ◌*◌}
use Rattle.fir_type_table.specs.working.First.{flip_of_first}
use Rattle.fir_type_table.specs.working.Lefts.{left_field_leaves}
use Rattle.fir_type_table.specs.working.Tables.{member_fields, members_at, type_at, types_of}
use Rattle.fir_type_table.proofs.MemberLists.{members_from}
use Rattle.fir_type_table.proofs.table.TypeTable.+first_pair.Given as goal

abbrev pub decreases-first_pair_flip : goal.decreases-first_pair_flip
decreases-first_pair_flip l = 3 * l.a.number + 2

abbrev pub decreases-first_pair_flip_in_bundle : goal.decreases-first_pair_flip_in_bundle
decreases-first_pair_flip_in_bundle l = 3 * l.a.number + 1

abbrev pub decreases-first_pair_flip_in_member : goal.decreases-first_pair_flip_in_member
decreases-first_pair_flip_in_member l = 3 * l.member.now.ty.number + 3

abbrev pub invariant-first_pair_flip_in_bundle-loop-member : goal.invariant-first_pair_flip_in_bundle-loop-member
invariant-first_pair_flip_in_bundle-loop-member l =
    flip_of_first (left_field_leaves (member_fields (types_of l.self) (members_at l.self l.fn.a.number)) (type_at (types_of l.self) l.b.number)) ≡
    flip_of_first (left_field_leaves (members_from (types_of l.self) l.member-items l.member-index) (type_at (types_of l.self) l.b.number))
