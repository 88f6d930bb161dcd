use Rattle.std.proofs.Common.{◌+◌, ◌-◌, ◌*◌}
use Rattle.fir_ast.specs.working.Views.{circuit_of}
use Rattle.fir_type_table.specs.working.Tables.{members_at, types_of}
use Rattle.fir_leaf_table.proofs.PushedMembers.{PushesTo}
use Rattle.fir_leaf_table.proofs.push_leaves.+leaves.Given as goal

abbrev pub decreases-push_type : goal.decreases-push_type
decreases-push_type l = 2 * l.id.number + 1

abbrev pub decreases-push_members : goal.decreases-push_members
decreases-push_members l = 2 * l.id.number

abbrev pub decreases-push_elements : goal.decreases-push_elements
decreases-push_elements l = 2 * l.element.number + 2

abbrev pub invariant-push_members-loop-leaf : goal.invariant-push_members-loop-leaf
invariant-push_members-loop-leaf l =
    PushesTo (circuit_of l.fitted) l.flip (types_of l.table) (members_at l.table l.id.number) l.first l.initial.leaves.items l.leaf l.leaves.items

abbrev pub decreases-push_members-loop-leaf : goal.decreases-push_members-loop-leaf
decreases-push_members-loop-leaf l = l.count - l.leaf
