use Rattle.std.proofs.Common.{◌≡◌, ◌+◌, ◌*◌}
use Rattle.fir_ast.specs.working.Views.{circuit_of}
use Rattle.fir_type_table.specs.working.Tables.{types_of}
use Rattle.fir_types.specs.working.Seen.{found_type}
use Rattle.fir_infer_resets.specs.declared.joined.Joined.{Joined}
use Rattle.fir_infer_resets.specs.working.Holding.{path_of}
use Rattle.fir_infer_resets.specs.working.FirstPairs.{first_field_pairs, partial_fields_met}
use Rattle.fir_infer_resets.specs.working.FirstEnds.{JoinsMet}
use Rattle.fir_infer_resets.specs.working.Shapes.{rank}
use Rattle.fir_infer_resets.proofs.MetFields.{shown_from}
use Rattle.fir_infer_resets.proofs.pairs.Sides.+pairs.Given as goal

abbrev pub decreases-join_types : goal.decreases-join_types
decreases-join_types l = 3 * rank l.one + 2

abbrev pub decreases-join_behind : goal.decreases-join_behind
decreases-join_behind l = 3 * rank l.one + 3

abbrev pub decreases-join_fields : goal.decreases-join_fields
decreases-join_fields l = 3 * l.a.number + 4

abbrev pub decreases-join_partial_fields : goal.decreases-join_partial_fields
decreases-join_partial_fields l = 3 * l.a.number + 4

abbrev pub invariant-join_fields-loop-i : goal.invariant-join_fields-loop-i
invariant-join_fields-loop-i l =
    (l.steps.items ≡ l.initial.steps.items)
    × ((new : Joined)
    → JoinsMet (circuit_of l.fn.self.named.now) l.fn.self.module_number l.fn.self.left l.fn.self.right
    (first_field_pairs (path_of l.initial.steps.items) (shown_from (types_of l.fn.self.table.now) l.x l.fs l.i) (shown_from (types_of l.fn.self.table.now) l.y l.gs l.i))
    l.joined
    new
    → JoinsMet (circuit_of l.fn.self.named.now) l.fn.self.module_number l.fn.self.left l.fn.self.right
    (first_field_pairs (path_of l.initial.steps.items) (shown_from (types_of l.fn.self.table.now) l.x l.fs 0) (shown_from (types_of l.fn.self.table.now) l.y l.gs 0))
    l.initial.joined
    new)

abbrev pub invariant-join_partial_fields-loop-member : goal.invariant-join_partial_fields-loop-member
invariant-join_partial_fields-loop-member l =
    (l.steps.items ≡ l.initial.steps.items)
    × ((new : Joined)
    → JoinsMet (circuit_of l.fn.self.named.now) l.fn.self.module_number l.fn.self.left l.fn.self.right
    (partial_fields_met (path_of l.initial.steps.items) (shown_from (types_of l.fn.self.table.now) l.x l.member-items l.member-index) (found_type (types_of l.fn.self.table.now) l.other))
    l.joined
    new
    → JoinsMet (circuit_of l.fn.self.named.now) l.fn.self.module_number l.fn.self.left l.fn.self.right
    (partial_fields_met (path_of l.initial.steps.items) (shown_from (types_of l.fn.self.table.now) l.x l.member-items 0) (found_type (types_of l.fn.self.table.now) l.other))
    l.initial.joined
    new)
