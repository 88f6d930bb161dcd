use Rattle.std.proofs.Common.{◌+◌, ◌-◌, ◌*◌}
use Rattle.fir_type_table.specs.working.Tables.{members_at, types_of}
use Rattle.fir_infer_widths.proofs.PushedMembers.{PushesTo}
use Rattle.fir_infer_widths.proofs.leaves.+leaves.Given as goal

abbrev pub invariant-push_members-loop-leaf : goal.invariant-push_members-loop-leaf
invariant-push_members-loop-leaf l =
    PushesTo (types_of l.table) l.is_bare l.unknowns (members_at l.table l.id.number) l.initial.arena l.leaf l.arena

abbrev pub decreases-push_members-loop-leaf : goal.decreases-push_members-loop-leaf
decreases-push_members-loop-leaf l = l.count - l.leaf

abbrev pub decreases-push_type : goal.decreases-push_type
decreases-push_type l = 2 * l.id.number + 1

abbrev pub decreases-push_members : goal.decreases-push_members
decreases-push_members l = 2 * l.id.number
