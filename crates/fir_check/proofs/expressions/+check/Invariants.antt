use Rattle.std.proofs.Common.{map, drop}
use Rattle.std.specs.Prelude.{option_map}
use Rattle.fir_ast.specs.working.Views.{expr_of, expressions_of, parts_of, sink_of}
use Rattle.fir_meaning.specs.TypedScopes.{TypedScope}
use Rattle.fir_meaning.specs.ExpressionTypes.{expression_types}
use Rattle.fir_type_table.specs.working.Tables.{types_of}
use Rattle.fir_names.specs.working.Parts.{part_of}
use Rattle.fir_types.specs.working.Known.{Knows}
use Rattle.fir_types.specs.working.Notes.{notes_of_each, part_notes, root_range}
use Rattle.fir_check.proofs.NotedWalks.{NotesSoFar}
use Rattle.fir_types.proofs.RangeWalks.{RangeSoFar}
use Rattle.fir_check.proofs.OperandWalks.{FoundSoFar}
use Rattle.fir_check.proofs.PartWalks.{Walked}
use Rattle.fir_check.proofs.expressions.+check.Given as goal

abbrev pub invariant-in_operands-loop-operand : goal.invariant-in_operands-loop-operand
invariant-in_operands-loop-operand l =
    (typed : TypedScope) → Knows l.names l.scope typed
    → FoundSoFar (types_of l.scope.table) (expression_types typed (expressions_of (map expr_of l.operands)))
    (expression_types typed (expressions_of (map expr_of (drop l.operand-index l.operands)))) (option_map (λ v. v.items) l.all)
    × NotesSoFar (types_of l.scope.table) l.initial.notes.items l.notes.items (notes_of_each typed (expressions_of (map expr_of l.operands)))
    (notes_of_each typed (expressions_of (map expr_of (drop l.operand-index l.operands))))

abbrev pub invariant-in_reference-loop-part : goal.invariant-in_reference-loop-part
invariant-in_reference-loop-part l =
    (typed : TypedScope) → Knows l.names l.scope typed
    → Walked (types_of l.scope.table) typed l.reference (parts_of (map part_of (drop l.part-index l.part-items))) l.reached
    × NotesSoFar (types_of l.scope.table) l.initial.notes.items l.notes.items (part_notes typed (sink_of l.reference).parts)
    (part_notes typed (parts_of (map part_of (drop l.part-index l.part-items))))
    × RangeSoFar (types_of l.scope.table) (root_range typed (sink_of l.reference).name) (sink_of l.reference).parts
    (parts_of (map part_of (drop l.part-index l.part-items))) l.reached l.picks.items
