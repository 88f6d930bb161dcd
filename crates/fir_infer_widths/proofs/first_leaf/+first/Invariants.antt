use Rattle.std.proofs.Common.{◌≡◌, ◌+◌, ◌*◌}
use Rattle.fir_type_table.specs.working.Tables.{member_fields, members_at, types_of}
use Rattle.fir_type_table.proofs.MemberLists.{members_from}
use Rattle.fir_meaning.specs.working.AssignedWidths.{assigned}
use Rattle.fir_infer_widths.specs.working.FirstLeaves.{first_where, passes}
use Rattle.fir_infer_widths.specs.working.NumberedLeaves.{numbered_field_leaves}
use Rattle.fir_infer_widths.proofs.first_leaf.+first.Given as goal

abbrev pub decreases-find_leaf : goal.decreases-find_leaf
decreases-find_leaf l = 3 * l.id.number + 2

abbrev pub decreases-find_in_bundle : goal.decreases-find_in_bundle
decreases-find_in_bundle l = 3 * l.id.number + 1

abbrev pub decreases-find_in_member : goal.decreases-find_in_member
decreases-find_in_member l = 3 * l.member.now.ty.number + 3

abbrev pub invariant-find_in_bundle-loop-member : goal.invariant-find_in_bundle-loop-member
invariant-find_in_bundle-loop-member l = record {
  path_is : l.path.items ≡ l.initial.path.items;
  left :
      first_where (passes (assigned l.widths) l.test) (numbered_field_leaves l.fn.first (member_fields (types_of l.table) (members_at l.table l.fn.id.number))) ≡
      first_where (passes (assigned l.widths) l.test) (numbered_field_leaves l.number (members_from (types_of l.table) l.member-items l.member-index));
}
