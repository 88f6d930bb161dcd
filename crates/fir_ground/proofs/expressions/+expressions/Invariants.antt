use Rattle.std.proofs.Common.{List, ◌++◌, map, drop}
use Rattle.fir_ast.specs.Types.{DataType}
use Rattle.fir_ast.specs.working.Views.{expr_of, expressions_of, parts_of, sink_of}
use Rattle.fir_meaning.specs.Reaching.{Reached}
use Rattle.fir_meaning.specs.TypedScopes.{TypedScope}
use Rattle.fir_meaning.specs.working.WellTyped.{HaveTypes, Reaches}
use Rattle.fir_names.specs.working.Parts.{part_of}
use Rattle.fir_types.specs.working.Notes.{Note as Meant, notes_of_each, part_notes}
use Rattle.fir_ground.specs.working.Grounds.{Enters}
use Rattle.fir_ground.proofs.OperandsCome.{OperandsSoFar}
use Rattle.fir_ground.proofs.PartsCome.{PartsSoFar}
use Rattle.fir_ground.proofs.expressions.+expressions.Given as goal

abbrev pub invariant-in_operands-loop-operand : goal.invariant-in_operands-loop-operand
invariant-in_operands-loop-operand l =
    (typed : TypedScope) (ts : List DataType) (rest : List Meant) → Enters l.ground typed (notes_of_each typed (expressions_of (map expr_of l.operands)) ++ rest) l.initial.walk
    → HaveTypes typed (expressions_of (map expr_of l.operands)) ts
    → OperandsSoFar l.ground typed rest (expressions_of (map expr_of l.operands)) (expressions_of (map expr_of (drop l.operand-index l.operands))) l.initial.walk l.walk l.ids.items

abbrev pub invariant-in_reference-loop-part : goal.invariant-in_reference-loop-part
invariant-in_reference-loop-part l =
    (typed : TypedScope) (r : Reached) (rest : List Meant) → Enters l.ground typed (part_notes typed (sink_of l.reference).parts ++ rest) l.initial.walk → Reaches typed (sink_of l.reference) r
    → PartsSoFar l.ground typed rest r (sink_of l.reference).parts (parts_of (map part_of (drop l.part-index l.part-items))) l.initial.walk l.walk l.indices.items
