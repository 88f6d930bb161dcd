use Rattle.std.proofs.Common.{List, ◌++◌, map, drop}
use Rattle.fir_ast.specs.Types.{DataType}
use Rattle.fir_ast.specs.working.Views.{expr_of, expressions_of, parts_of, sink_of}
use Rattle.fir_meaning.specs.TypedScopes.{TypedScope}
use Rattle.fir_names.specs.working.Parts.{part_of}
use Rattle.fir_types.specs.working.Notes.{Note, notes_of_each, part_notes}
use Rattle.fir_infer_resets.specs.working.Meets.{Ahead}
use Rattle.fir_infer_resets.specs.working.Passes.{Passes}
use Rattle.fir_infer_resets.proofs.meets.Walk.+expressions.Given as goal

abbrev pub invariant-pass_operands-loop-operand : goal.invariant-pass_operands-loop-operand
invariant-pass_operands-loop-operand l =
    (ts : List DataType) (scope : TypedScope) (rest : List Note)
    → Ahead ts l.initial.self.notes.now (notes_of_each scope (expressions_of (map expr_of l.operands)) ++ rest)
    → Passes ts (notes_of_each scope (expressions_of (map expr_of (drop l.operand-index l.operands))) ++ rest) l.initial.self l.self

abbrev pub invariant-reference-loop-part : goal.invariant-reference-loop-part
invariant-reference-loop-part l =
    (ts : List DataType) (scope : TypedScope) (rest : List Note) → Ahead ts l.initial.self.notes.now (part_notes scope (sink_of l.reference).parts ++ rest)
    → Passes ts (part_notes scope (parts_of (map part_of (drop l.part-index l.part-items))) ++ rest) l.initial.self l.self
