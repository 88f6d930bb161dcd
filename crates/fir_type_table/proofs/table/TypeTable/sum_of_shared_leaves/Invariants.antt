use Rattle.std.proofs.Common.{◌≡◌, ◌+◌, ◌<◌, ◌^◌}
use Rattle.fir_meaning.specs.SharedLeaves.{shared_field_count}
use Rattle.fir_type_table.specs.working.Saturated.{saturated}
use Rattle.fir_type_table.specs.working.Tables.{member_fields, types_of}
use Rattle.fir_type_table.proofs.MemberLists.{members_from}
use Rattle.fir_type_table.proofs.table.TypeTable.sum_of_shared_leaves.Given as goal

abbrev pub invariant-loop-member : goal.invariant-loop-member
invariant-loop-member l =
    record {
      so_far : saturated (l.sum + shared_field_count (members_from (types_of l.self) l.members l.member-index)) ≡ saturated (shared_field_count (member_fields (types_of l.self) l.members));
      fits : l.sum < 2 ^ 64;
    }
