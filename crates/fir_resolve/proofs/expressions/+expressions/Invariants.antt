use Rattle.std.proofs.Common.{◌≡◌, map, drop}
use Rattle.fir_ast.specs.working.Views.{expr_of, expressions_of, parts_of}
use Rattle.fir_pass.specs.Groups.{first_of}
use Rattle.fir_meaning.specs.Components.{Declarations}
use Rattle.fir_meaning.specs.Mentions.{operand_mentions, part_mentions}
use Rattle.fir_meaning.specs.NameGroups.{faults_in}
use Rattle.fir_resolve.specs.working.Scoped.{Sees}
use Rattle.fir_names.specs.working.Parts.{part_of}
use Rattle.fir_resolve.proofs.expressions.+expressions.Given as goal

abbrev pub invariant-in_operands-loop-operand : goal.invariant-in_operands-loop-operand
invariant-in_operands-loop-operand l =
    (visible : Declarations) → Sees l.scope visible
    → first_of (faults_in (operand_mentions visible (expressions_of (map expr_of l.operands))))
    ≡ first_of (faults_in (operand_mentions visible (expressions_of (map expr_of (drop l.operand-index l.operands)))))

abbrev pub invariant-in_reference-loop-part : goal.invariant-in_reference-loop-part
invariant-in_reference-loop-part l =
    (visible : Declarations) → Sees l.scope visible
    → first_of (faults_in (part_mentions visible (parts_of (map part_of l.reference.parts.items))))
    ≡ first_of (faults_in (part_mentions visible (parts_of (map part_of (drop l.part-index l.part-items)))))
