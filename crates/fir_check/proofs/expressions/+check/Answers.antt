use Rattle.std.proofs.Common.{◌+◌, [], ◌∷◌, ◌++◌, map, drop, refl, sym, ap, subst, ◌∙◌}
use Rattle.std.specs.Prelude.{option_map}
use Rattle.std.proofs.lemmas.List.{drop_all}
use Rattle.std.proofs.lemmas.Result.{err_from_is_err_and}
use Rattle.fir_ast.specs.Expressions.{subfield, subindex, subaccess, literal}
use Rattle.fir_ast.specs.working.Views.{expr_of, expressions_of, parts_of, sink_of}
use Rattle.fir_ast.specs.Statements.{SinkReference}
use Rattle.fir_ast.proofs.TreeViews.{operation_view, mux_view, sink_name, validif_view}
use Rattle.fir_meaning.specs.LeafPaths.{named, element}
use Rattle.fir_meaning.specs.ExpressionTypes.{access_form, expression_type, expression_types, field_form, index_form, mux_form, operation_form, reaching, validif_form}
use Rattle.fir_type_table.specs.working.Tables.{types_of}
use Rattle.fir_names.specs.working.Parts.{part_of}
use Rattle.fir_types.specs.working.Seen.{sink_path}
use Rattle.fir_check.proofs.CheckedForms.{condition, arm, first_along, first_left, in_first_of_two, in_second_of_two, in_first_of_three, in_second_of_three, in_third_of_three, in_index}
use Rattle.fir_types.specs.working.Notes.{expression_notes, notes_of_each, part_notes, reference_note, root_range}
use Rattle.fir_names.proofs.FirstMentions.{views_left}
use Rattle.fir_check.proofs.OperandWalks.{FoundSoFar, found_done, found_first, found_next}
use Rattle.fir_check.proofs.NotedWalks.{NotesSoFar, noted_on, noted_then, noted_three, notes_done, notes_first, notes_next}
use Rattle.fir_types.proofs.RangeWalks.{RangeSoFar, field_leads, index_leads, range_first, range_next, reference_noted}
use Rattle.fir_types.proofs.PartViews.{field_view, index_view, access_view, literal_view, parts_left, reference_view, sink_view}
use Rattle.fir_check.proofs.PartWalks.{part_goes_on, part_more, part_fault, reached_done, reached_first, reference_found}
use Rattle.fir_check.proofs.expressions.+check.Goals as goal

pub in_expression-returns-in_ok-found-in-Op-clause-found : goal.in_expression-returns-in_ok-found-in-Op-clause-found
in_expression-returns-in_ok-found-in-Op-clause-found t c =
    let operands = expressions_of (map expr_of c.in-Op.operands.items) in
    let seen = ap expr_of c.in-Op.is ∙ operation_view c.in-Op.place c.in-Op.op c.in-Op.operands c.in-Op.integers in
    let on_operation = rw c.deref-in-Op.ensures.value at c.on_operation-found.ensures in
    λ typed knows.
    let found = on_operation (expression_types typed operands) (rw c.deref.ensures.value at c.in_ok-found-in-Op.ensures.found typed knows) in
    rw seen (c.note_expression-in-Op.ensures.found (operation_form c.in-Op.place c.in-Op.op c.in-Op.integers.items (expression_types typed operands)) found)

pub in_expression-returns-in_ok-found-in-Op-clause-notes : goal.in_expression-returns-in_ok-found-in-Op-clause-notes
in_expression-returns-in_ok-found-in-Op-clause-notes t c =
    let operands = expressions_of (map expr_of c.in-Op.operands.items) in
    let seen = ap expr_of c.in-Op.is ∙ operation_view c.in-Op.place c.in-Op.op c.in-Op.operands c.in-Op.integers in
    let on_operation = rw c.deref-in-Op.ensures.value at c.on_operation-found.ensures in
    λ typed knows.
    let found = on_operation (expression_types typed operands) (rw c.deref.ensures.value at c.in_ok-found-in-Op.ensures.found typed knows) in
    let own = c.note_expression-in-Op.ensures.notes (operation_form c.in-Op.place c.in-Op.op c.in-Op.integers.items (expression_types typed operands)) found in
    rw seen
    (noted_on (types_of c.args.scope.now.table) _ _ _ (notes_of_each typed operands) _ c.note_expression-in-Op.result
    (rw c.deref.ensures.value at c.in_ok-found-in-Op.ensures.notes typed knows) own)

pub in_expression-returns-in_err-condition-in-Mux-clause-found : goal.in_expression-returns-in_err-condition-in-Mux-clause-found
in_expression-returns-in_err-condition-in-Mux-clause-found t c =
    let p = err_from_is_err_and c.from_residual-in_err-condition-in-Mux.result c.from_residual-in_err-condition-in-Mux.ensures.1 in
    let x = expr_of c.in-Mux.condition.value in
    let y = expr_of c.in-Mux.one.value in
    let z = expr_of c.in-Mux.other.value in
    let seen = ap expr_of c.in-Mux.is ∙ mux_view c.in-Mux.place c.in-Mux.condition c.in-Mux.one c.in-Mux.other in
    λ typed knows. rw (p.1, p.2, seen) (in_first_of_three c.in-Mux.place (condition typed x) (arm typed y) (arm typed z) _ (rw c.deref-in-Mux.ensures at c.in_err-condition-in-Mux.ensures.found typed knows))

pub in_expression-returns-in_err-one-in-Mux-clause-found : goal.in_expression-returns-in_err-one-in-Mux-clause-found
in_expression-returns-in_err-one-in-Mux-clause-found t c =
    let p = err_from_is_err_and c.from_residual-in_err-one-in-Mux.result c.from_residual-in_err-one-in-Mux.ensures.1 in
    let x = expr_of c.in-Mux.condition.value in
    let y = expr_of c.in-Mux.one.value in
    let z = expr_of c.in-Mux.other.value in
    let seen = ap expr_of c.in-Mux.is ∙ mux_view c.in-Mux.place c.in-Mux.condition c.in-Mux.one c.in-Mux.other in
    λ typed knows. rw (p.1, p.2, seen) (in_second_of_three c.in-Mux.place (condition typed x) (arm typed y) (arm typed z) _ _ (rw c.deref-in-Mux.ensures at c.in_ok-condition-in-Mux.ensures.found typed knows) (rw c.deref-in-Mux-2.ensures at c.in_err-one-in-Mux.ensures.found typed knows))

pub in_expression-returns-in_err-other-in-Mux-clause-found : goal.in_expression-returns-in_err-other-in-Mux-clause-found
in_expression-returns-in_err-other-in-Mux-clause-found t c =
    let p = err_from_is_err_and c.from_residual-in_err-other-in-Mux.result c.from_residual-in_err-other-in-Mux.ensures.1 in
    let x = expr_of c.in-Mux.condition.value in
    let y = expr_of c.in-Mux.one.value in
    let z = expr_of c.in-Mux.other.value in
    let seen = ap expr_of c.in-Mux.is ∙ mux_view c.in-Mux.place c.in-Mux.condition c.in-Mux.one c.in-Mux.other in
    λ typed knows. rw (p.1, p.2, seen) (in_third_of_three c.in-Mux.place (condition typed x) (arm typed y) (arm typed z) _ _ _ (rw c.deref-in-Mux.ensures at c.in_ok-condition-in-Mux.ensures.found typed knows) (rw c.deref-in-Mux-2.ensures at c.in_ok-one-in-Mux.ensures.found typed knows) (rw c.deref-in-Mux-3.ensures at c.in_err-other-in-Mux.ensures.found typed knows))

pub in_expression-returns-in_ok-other-in-Mux-clause-found : goal.in_expression-returns-in_ok-other-in-Mux-clause-found
in_expression-returns-in_ok-other-in-Mux-clause-found t c =
    let x = expr_of c.in-Mux.condition.value in
    let y = expr_of c.in-Mux.one.value in
    let z = expr_of c.in-Mux.other.value in
    let seen = ap expr_of c.in-Mux.is ∙ mux_view c.in-Mux.place c.in-Mux.condition c.in-Mux.one c.in-Mux.other in
    λ typed knows.
    let found = c.on_mux-found.ensures (condition typed x) (arm typed y) (arm typed z) (rw c.deref-in-Mux.ensures at c.in_ok-condition-in-Mux.ensures.found typed knows) (rw c.deref-in-Mux-2.ensures at c.in_ok-one-in-Mux.ensures.found typed knows) (rw c.deref-in-Mux-3.ensures at c.in_ok-other-in-Mux.ensures.found typed knows) in
    rw seen (c.note_expression-in-Mux.ensures.found (mux_form c.in-Mux.place (condition typed x) (arm typed y) (arm typed z)) found)

pub in_expression-returns-in_ok-other-in-Mux-clause-notes : goal.in_expression-returns-in_ok-other-in-Mux-clause-notes
in_expression-returns-in_ok-other-in-Mux-clause-notes t c =
    let x = expr_of c.in-Mux.condition.value in
    let y = expr_of c.in-Mux.one.value in
    let z = expr_of c.in-Mux.other.value in
    let ts = types_of c.args.scope.now.table in
    let seen = ap expr_of c.in-Mux.is ∙ mux_view c.in-Mux.place c.in-Mux.condition c.in-Mux.one c.in-Mux.other in
    λ typed knows.
    let found = c.on_mux-found.ensures (condition typed x) (arm typed y) (arm typed z) (rw c.deref-in-Mux.ensures at c.in_ok-condition-in-Mux.ensures.found typed knows) (rw c.deref-in-Mux-2.ensures at c.in_ok-one-in-Mux.ensures.found typed knows) (rw c.deref-in-Mux-3.ensures at c.in_ok-other-in-Mux.ensures.found typed knows) in
    let own = c.note_expression-in-Mux.ensures.notes (mux_form c.in-Mux.place (condition typed x) (arm typed y) (arm typed z)) found in
    rw seen
    (noted_on ts _ _ _ (expression_notes typed x ++ expression_notes typed y ++ expression_notes typed z) _ c.note_expression-in-Mux.result
    (noted_three ts _ _ _ _ (expression_notes typed x) (expression_notes typed y) (expression_notes typed z)
    (rw c.deref-in-Mux.ensures at c.in_ok-condition-in-Mux.ensures.notes typed knows) (rw c.deref-in-Mux-2.ensures at c.in_ok-one-in-Mux.ensures.notes typed knows)
    (rw c.deref-in-Mux-3.ensures at c.in_ok-other-in-Mux.ensures.notes typed knows)) own)

pub in_expression-returns-in_err-condition-in-Validif-clause-found : goal.in_expression-returns-in_err-condition-in-Validif-clause-found
in_expression-returns-in_err-condition-in-Validif-clause-found t c =
    let p = err_from_is_err_and c.from_residual-in_err-condition-in-Validif.result c.from_residual-in_err-condition-in-Validif.ensures.1 in
    let x = expr_of c.in-Validif.condition.value in
    let y = expr_of c.in-Validif.value.value in
    let seen = ap expr_of c.in-Validif.is ∙ validif_view c.in-Validif.place c.in-Validif.condition c.in-Validif.value in
    λ typed knows. rw (p.1, p.2, seen) (in_first_of_two c.in-Validif.place (condition typed x) (arm typed y) _ (rw c.deref-in-Validif.ensures at c.in_err-condition-in-Validif.ensures.found typed knows))

pub in_expression-returns-in_err-value-in-Validif-clause-found : goal.in_expression-returns-in_err-value-in-Validif-clause-found
in_expression-returns-in_err-value-in-Validif-clause-found t c =
    let p = err_from_is_err_and c.from_residual-in_err-value-in-Validif.result c.from_residual-in_err-value-in-Validif.ensures.1 in
    let x = expr_of c.in-Validif.condition.value in
    let y = expr_of c.in-Validif.value.value in
    let seen = ap expr_of c.in-Validif.is ∙ validif_view c.in-Validif.place c.in-Validif.condition c.in-Validif.value in
    λ typed knows. rw (p.1, p.2, seen) (in_second_of_two c.in-Validif.place (condition typed x) (arm typed y) _ _ (rw c.deref-in-Validif.ensures at c.in_ok-condition-in-Validif.ensures.found typed knows) (rw c.deref-in-Validif-2.ensures at c.in_err-value-in-Validif.ensures.found typed knows))

pub in_expression-returns-in_ok-value-in-Validif-clause-found : goal.in_expression-returns-in_ok-value-in-Validif-clause-found
in_expression-returns-in_ok-value-in-Validif-clause-found t c =
    let x = expr_of c.in-Validif.condition.value in
    let y = expr_of c.in-Validif.value.value in
    let seen = ap expr_of c.in-Validif.is ∙ validif_view c.in-Validif.place c.in-Validif.condition c.in-Validif.value in
    λ typed knows.
    let found = c.on_validif-found.ensures (condition typed x) (arm typed y) (rw c.deref-in-Validif.ensures at c.in_ok-condition-in-Validif.ensures.found typed knows) (rw c.deref-in-Validif-2.ensures at c.in_ok-value-in-Validif.ensures.found typed knows) in
    rw seen (c.note_expression-in-Validif.ensures.found (validif_form c.in-Validif.place (condition typed x) (arm typed y)) found)

pub in_expression-returns-in_ok-value-in-Validif-clause-notes : goal.in_expression-returns-in_ok-value-in-Validif-clause-notes
in_expression-returns-in_ok-value-in-Validif-clause-notes t c =
    let x = expr_of c.in-Validif.condition.value in
    let y = expr_of c.in-Validif.value.value in
    let ts = types_of c.args.scope.now.table in
    let seen = ap expr_of c.in-Validif.is ∙ validif_view c.in-Validif.place c.in-Validif.condition c.in-Validif.value in
    λ typed knows.
    let found = c.on_validif-found.ensures (condition typed x) (arm typed y) (rw c.deref-in-Validif.ensures at c.in_ok-condition-in-Validif.ensures.found typed knows) (rw c.deref-in-Validif-2.ensures at c.in_ok-value-in-Validif.ensures.found typed knows) in
    let own = c.note_expression-in-Validif.ensures.notes (validif_form c.in-Validif.place (condition typed x) (arm typed y)) found in
    rw seen
    (noted_on ts _ _ _ (expression_notes typed x ++ expression_notes typed y) _ c.note_expression-in-Validif.result
    (noted_then ts _ _ _ (expression_notes typed x) (expression_notes typed y)
    (rw c.deref-in-Validif.ensures at c.in_ok-condition-in-Validif.ensures.notes typed knows)
    (rw c.deref-in-Validif-2.ensures at c.in_ok-value-in-Validif.ensures.notes typed knows)) own)

pub in_expression-returns-in-Literal-clause-found : goal.in_expression-returns-in-Literal-clause-found
in_expression-returns-in-Literal-clause-found t c =
    let seen = ap expr_of c.in-Literal.is ∙ literal_view c.in-Literal.literal in
    λ typed knows. rw seen (c.note_expression.ensures.found (expression_type typed (literal c.in-Literal.literal)) (record { has = refl; none = refl }))

pub in_expression-returns-in-Literal-clause-notes : goal.in_expression-returns-in-Literal-clause-notes
in_expression-returns-in-Literal-clause-notes t c =
    let seen = ap expr_of c.in-Literal.is ∙ literal_view c.in-Literal.literal in
    λ typed knows. rw seen (c.note_expression.ensures.notes (expression_type typed (literal c.in-Literal.literal)) (record { has = refl; none = refl }))

pub in_expression-returns-in_err-reached-in-Ref-clause-found : goal.in_expression-returns-in_err-reached-in-Ref-clause-found
in_expression-returns-in_err-reached-in-Ref-clause-found t c =
    let p = err_from_is_err_and c.from_residual.result c.from_residual.ensures.1 in
    let seen = ap expr_of c.in-Ref.is ∙ reference_view c.in-Ref.reference in
    λ typed knows. rw (p.1, p.2, seen) (c.in_err-reached-in-Ref.ensures.found typed knows)

pub in_expression-returns-in-Some-clause-found : goal.in_expression-returns-in-Some-clause-found
in_expression-returns-in-Some-clause-found t c =
    let s = sink_of c.in-Ref.reference in
    let seen = ap expr_of c.in-Ref.is ∙ reference_view c.in-Ref.reference in
    λ typed knows. rw seen (reference_found (types_of c.args.scope.now.table) typed s (sink_path s) _ _ c.in-Some.is (c.in_ok-reached-in-Ref.ensures.found typed knows))

pub in_expression-returns-in-Some-clause-notes : goal.in_expression-returns-in-Some-clause-notes
in_expression-returns-in-Some-clause-notes t c =
    let seen = ap expr_of c.in-Ref.is ∙ reference_view c.in-Ref.reference in
    λ typed knows. rw seen (c.in_ok-reached-in-Ref.ensures.notes typed knows)

pub in_expression-returns-in-None-clause-found : goal.in_expression-returns-in-None-clause-found
in_expression-returns-in-None-clause-found t c =
    let s = sink_of c.in-Ref.reference in
    let seen = ap expr_of c.in-Ref.is ∙ reference_view c.in-Ref.reference in
    λ typed knows. rw seen (reference_found (types_of c.args.scope.now.table) typed s (sink_path s) _ _ c.in-None.is (c.in_ok-reached-in-Ref.ensures.found typed knows))

pub in_expression-returns-in-None-clause-notes : goal.in_expression-returns-in-None-clause-notes
in_expression-returns-in-None-clause-notes t c =
    let seen = ap expr_of c.in-Ref.is ∙ reference_view c.in-Ref.reference in
    λ typed knows. rw seen (c.in_ok-reached-in-Ref.ensures.notes typed knows)

pub in_expression-returns-in_err-found-in-Op-clause-found : goal.in_expression-returns-in_err-found-in-Op-clause-found
in_expression-returns-in_err-found-in-Op-clause-found t c =
    let p = err_from_is_err_and c.from_residual-in_err-found-in-Op.result c.from_residual-in_err-found-in-Op.ensures.1 in
    let operands = expressions_of (map expr_of c.in-Op.operands.items) in
    let seen = ap expr_of c.in-Op.is ∙ operation_view c.in-Op.place c.in-Op.op c.in-Op.operands c.in-Op.integers in
    λ typed knows. rw (p.1, p.2, seen)
    (first_left (expression_types typed operands).shows _ _ (rw c.deref.ensures.value at c.in_err-found-in-Op.ensures.found typed knows))

pub in_unsigned-returns-in_err-found-clause-found : goal.in_unsigned-returns-in_err-found-clause-found
in_unsigned-returns-in_err-found-clause-found t c =
    let p = err_from_is_err_and c.from_residual.result c.from_residual.ensures.1 in
    λ typed knows. rw (p.1, p.2) (first_left (expression_type typed (expr_of c.args.expr.now)).shows _ _ (c.in_err-found.ensures.found typed knows))

pub in_passive-returns-in_err-found-clause-found : goal.in_passive-returns-in_err-found-clause-found
in_passive-returns-in_err-found-clause-found t c =
    let p = err_from_is_err_and c.from_residual.result c.from_residual.ensures.1 in
    λ typed knows. rw (p.1, p.2) (first_left (expression_type typed (expr_of c.args.expr.now)).shows _ _ (c.in_err-found.ensures.found typed knows))

pub in_unsigned-returns-clause-found : goal.in_unsigned-returns-clause-found
in_unsigned-returns-clause-found t c =
    let on_unsigned = rw c.place_of.ensures at c.on_unsigned.ensures in
    λ typed knows. on_unsigned (expression_type typed (expr_of c.args.expr.now)) (c.in_ok-found.ensures.found typed knows)

pub in_passive-returns-clause-found : goal.in_passive-returns-clause-found
in_passive-returns-clause-found t c =
    let on_passive = rw c.place_of.ensures at c.on_passive.ensures in
    λ typed knows. on_passive (expression_type typed (expr_of c.args.expr.now)) (c.in_ok-found.ensures.found typed knows)

pub in_part-returns-in-Field-clause-found : goal.in_part-returns-in-Field-clause-found
in_part-returns-in-Field-clause-found t c =
    let ts = types_of c.args.scope.now.table in
    let seen = ap part_of c.in-Field.is ∙ field_view c.in-Field.field-0 c.in-Field.field-1 c.in-Field.name in
    λ typed knows path d is rest. rw seen
    (part_goes_on ts typed c.args.place path d (field_form c.args.place c.in-Field.name d) (subfield c.in-Field.field-0 c.in-Field.field-1 c.in-Field.name) rest (named c.in-Field.name) _ refl refl (c.on_field.ensures.reached path d is))

pub in_part-returns-in-Index-clause-found : goal.in_part-returns-in-Index-clause-found
in_part-returns-in-Index-clause-found t c =
    let ts = types_of c.args.scope.now.table in
    let seen = ap part_of c.in-Index.is ∙ index_view c.in-Index.field-0 c.in-Index.field-1 c.in-Index.index in
    λ typed knows path d is rest. rw seen
    (part_goes_on ts typed c.args.place path d (index_form c.args.place c.in-Index.index d) (subindex c.in-Index.field-0 c.in-Index.field-1 c.in-Index.index) rest (element c.in-Index.index) _ refl refl (c.on_index.ensures.reached path d is))

pub in_part-returns-in_err-index-in-Access-clause-found : goal.in_part-returns-in_err-index-in-Access-clause-found
in_part-returns-in_err-index-in-Access-clause-found t c =
    let p = err_from_is_err_and c.from_residual.result c.from_residual.ensures.1 in
    let x = expr_of c.in-Access.expr.value in
    let seen = ap part_of c.in-Access.is ∙ access_view c.in-Access.field-0 c.in-Access.expr in
    λ typed knows path d is rest. rw (p.1, p.2, seen)
    (first_along typed c.args.place (access_form c.args.place d (condition typed x)) rest _ (in_index c.args.place d (condition typed x) _ _ is (rw c.deref.ensures at c.in_err-index-in-Access.ensures.found typed knows)))

pub in_part-returns-in_ok-index-in-Access-clause-found : goal.in_part-returns-in_ok-index-in-Access-clause-found
in_part-returns-in_ok-index-in-Access-clause-found t c =
    let x = expr_of c.in-Access.expr.value in
    let seen = ap part_of c.in-Access.is ∙ access_view c.in-Access.field-0 c.in-Access.expr in
    λ typed knows path d is rest. rw seen
    (part_goes_on (types_of c.args.scope.now.table) typed c.args.place path d (access_form c.args.place d (condition typed x)) (subaccess c.in-Access.field-0 x) rest (element 0) _ refl refl
    (c.on_access.ensures.reached path d (condition typed x) is (rw c.deref.ensures at c.in_ok-index-in-Access.ensures.found typed knows)))

pub in_reference-returns-in_err-reached-clause-found : goal.in_reference-returns-in_err-reached-clause-found
in_reference-returns-in_err-reached-clause-found t c =
    let p = err_from_is_err_and c.from_residual.result c.from_residual.ensures.1 in
    λ typed knows. rw (p.1, p.2)
    (part_fault (types_of c.args.scope.now.table) typed c.args.reference.now.place (reaching typed (sink_of c.args.reference.now)) (sink_path (sink_of c.args.reference.now)) c.deref-part-items.result.now c.loop-part.part-index c.part-item.result _ _ (c.loop-part.invariant typed knows).0 c.loop-part-test.true c.part-item.is (c.in_err-reached.ensures.found typed knows))

pub in_reference-loop-part-preserved : goal.in_reference-loop-part-preserved
in_reference-loop-part-preserved t c =
    let ts = types_of c.args.scope.now.table in
    let s = sink_of c.args.reference.now in
    let parts = c.deref-part-items.result.now in
    let i = c.loop-part.part-index in
    let rest = parts_of (map part_of (drop (i + 1) parts)) in
    let left = parts_left parts i c.part-item.result c.loop-part-test.true c.part-item.is in
    λ typed knows.
    let so_far = c.loop-part.invariant typed knows in
    let step = c.in_ok-reached.ensures.notes typed knows in (
      part_more ts typed c.args.reference.now.place (reaching typed s) (sink_path s) parts i c.part-item.result _ _ so_far.0 c.loop-part-test.true c.part-item.is
          (c.in_ok-reached.ensures.found typed knows),
      notes_next ts _ _ _ _ _ step.own (part_notes typed rest) so_far.1 (ap (part_notes typed) left ∙ step.same rest) step.noted,
      range_next ts (root_range typed s.name) s.parts rest (part_of c.part-item.result) _ _ _ _
          (subst (λ ps. RangeSoFar ts (root_range typed s.name) s.parts ps c.loop-part.reached c.loop-part.picks.items) left so_far.2) c.in_ok-reached.ensures.range,
    )

pub in_part-returns-in-Field-clause-range : goal.in_part-returns-in-Field-clause-range
in_part-returns-in-Field-clause-range t c =
    let seen = ap part_of c.in-Field.is ∙ field_view c.in-Field.field-0 c.in-Field.field-1 c.in-Field.name in
    rw seen (field_leads (types_of c.args.scope.now.table) c.in-Field.field-0 c.in-Field.field-1 c.in-Field.name c.args.reached _ c.on_field.result c.on_field.ensures.range)

pub in_part-returns-in-Index-clause-range : goal.in_part-returns-in-Index-clause-range
in_part-returns-in-Index-clause-range t c =
    let seen = ap part_of c.in-Index.is ∙ index_view c.in-Index.field-0 c.in-Index.field-1 c.in-Index.index in
    rw seen (index_leads (types_of c.args.scope.now.table) c.in-Index.field-0 c.in-Index.field-1 c.in-Index.index c.args.reached _ c.on_index.result c.on_index.ensures.range)

pub in_operands-loop-operand-init : goal.in_operands-loop-operand-init
in_operands-loop-operand-init t c =
    let ts = types_of c.args.scope.now.table in
    let all = expressions_of (map expr_of c.args.operands.now) in
    λ typed knows. (
      found_first ts (expression_types typed all) c.new.result.items c.new.ensures.items,
      notes_first ts c.args.notes.now.items (notes_of_each typed all),
    )

pub in_operands-loop-operand-preserved : goal.in_operands-loop-operand-preserved
in_operands-loop-operand-preserved t c =
    let ts = types_of c.args.scope.now.table in
    let operands = c.args.operands.now in
    let i = c.loop-operand.operand-index in
    let x = expr_of c.operand-item.result in
    let rest = expressions_of (map expr_of (drop (i + 1) operands)) in
    let left = ap expressions_of (views_left expr_of operands i c.operand-item.result c.loop-operand-test.true c.operand-item.is) in
    λ typed knows.
    let so_far = c.loop-operand.invariant typed knows in (
      found_next ts (expression_types typed (expressions_of (map expr_of operands))) (expression_types typed rest) (expression_type typed x) _ _ _
          (subst (λ es. FoundSoFar ts (expression_types typed (expressions_of (map expr_of operands))) (expression_types typed es) (option_map (λ v. v.items) c.loop-operand.all)) left so_far.0)
          (c.in_ok-found.ensures.found typed knows) c.in_ok-all.ensures.operands,
      notes_next ts _ _ _ _ _ (expression_notes typed x) (notes_of_each typed rest) so_far.1 (ap (notes_of_each typed) left) (c.in_ok-found.ensures.notes typed knows),
    )

pub in_operands-returns-clause-notes : goal.in_operands-returns-clause-notes
in_operands-returns-clause-notes t c =
    let ts = types_of c.args.scope.now.table in
    let none = drop_all c.loop-operand.operand-index c.args.operands.now c.loop-operand-test.false in
    λ typed knows. notes_done ts _ _ _ _ (c.loop-operand.invariant typed knows).1 (ap (λ es. notes_of_each typed (expressions_of (map expr_of es))) none)

pub in_operands-returns-clause-found : goal.in_operands-returns-clause-found
in_operands-returns-clause-found t c =
    let none = drop_all c.loop-operand.operand-index c.args.operands.now c.loop-operand-test.false in
    λ typed knows.
    found_done (types_of c.args.scope.now.table) _ _ c.loop-operand.all (c.loop-operand.invariant typed knows).0
    (ap (λ es. expression_types typed (expressions_of (map expr_of es))) none)

pub in_reference-loop-part-init : goal.in_reference-loop-part-init
in_reference-loop-part-init t c =
    let ts = types_of c.args.scope.now.table in
    let r = c.args.reference.now in
    let s = sink_of r in
    let parts = ap (λ xs. parts_of (map part_of xs)) c.deref-part-items.ensures.value in
    let same = ap (λ (x : SinkReference). x.parts) (sink_view r) ∙ sym parts in
    λ typed knows. (
      reached_first ts typed r c.deref-part-items.result.now c.root-reached.result c.deref-part-items.ensures.value (c.root-reached.ensures.reached typed knows),
      subst (λ ps. NotesSoFar ts c.args.notes.now.items c.args.notes.now.items (part_notes typed s.parts) (part_notes typed ps)) same
          (notes_first ts c.args.notes.now.items (part_notes typed s.parts)),
      subst (λ ps. RangeSoFar ts (root_range typed s.name) s.parts ps c.root-reached.result c.new-picks.result.items) same
          (rw (c.new-picks.ensures.items, sink_name r) (range_first ts (root_range typed r.name) s.parts c.root-reached.result (c.root-reached.ensures.range typed knows))),
    )

pub in_reference-returns-clause-found : goal.in_reference-returns-clause-found
in_reference-returns-clause-found t c =
    let none = drop_all c.loop-part.part-index c.deref-part-items.result.now c.loop-part-test.false in
    λ typed knows. reached_done (types_of c.args.scope.now.table) typed c.args.reference.now _ c.loop-part.reached (c.loop-part.invariant typed knows).0 (ap (λ ps. parts_of (map part_of ps)) none)

pub in_reference-returns-clause-notes : goal.in_reference-returns-clause-notes
in_reference-returns-clause-notes t c =
    let ts = types_of c.args.scope.now.table in
    let s = sink_of c.args.reference.now in
    let none = ap (λ ps. parts_of (map part_of ps)) (drop_all c.loop-part.part-index c.deref-part-items.result.now c.loop-part-test.false) in
    λ typed knows.
    let so_far = c.loop-part.invariant typed knows in
    let reached = reached_done ts typed c.args.reference.now _ c.loop-part.reached so_far.0 none in
    noted_then ts _ _ _ (part_notes typed s.parts) (reference_note typed s ∷ []) (notes_done ts _ _ _ _ so_far.1 (ap (part_notes typed) none))
    (reference_noted ts typed s (sink_path s) c.loop-part.reached c.loop-part.picks.items _ _ reached.has
    (subst (λ ps. RangeSoFar ts (root_range typed s.name) s.parts ps c.loop-part.reached c.loop-part.picks.items) none so_far.2) c.in_ok-note_reference.ensures)
