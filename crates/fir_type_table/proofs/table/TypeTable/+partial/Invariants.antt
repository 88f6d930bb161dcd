use Rattle.std.proofs.Common.{◌≡◌, ◌+◌, ◌*◌}
use Rattle.fir_type_table.specs.working.Tables.{member_fields, members_at, type_at, types_of}
use Rattle.fir_type_table.specs.working.Wanted.{first_wanted}
use Rattle.fir_type_table.specs.working.Lefts.{left_field_leaves}
use Rattle.fir_type_table.proofs.MemberLists.{members_from}
use Rattle.fir_type_table.proofs.table.TypeTable.+partial.Given as goal

abbrev pub decreases-find_partial_leaf : goal.decreases-find_partial_leaf
decreases-find_partial_leaf l = 3 * l.a.number + 2

abbrev pub decreases-find_in_partial_bundle : goal.decreases-find_in_partial_bundle
decreases-find_in_partial_bundle l = 3 * l.a.number + 1

abbrev pub decreases-find_in_partial_member : goal.decreases-find_in_partial_member
decreases-find_in_partial_member l = 3 * l.member.now.ty.number + 3

abbrev pub invariant-find_in_partial_bundle-loop-member : goal.invariant-find_in_partial_bundle-loop-member
invariant-find_in_partial_bundle-loop-member l = record {
  path_is : l.path.items ≡ l.initial.path.items;
  left :
      first_wanted l.straight l.flipped
      (left_field_leaves (member_fields (types_of l.self) (members_at l.self l.fn.a.number)) (type_at (types_of l.self) l.b.number)) ≡
      first_wanted l.straight l.flipped
      (left_field_leaves (members_from (types_of l.self) l.member-items l.member-index) (type_at (types_of l.self) l.b.number));
}
