use Rattle.std.proofs.Common.{[], ◌∷◌, ◌++◌, ◌+◌, map, drop, sym, ap, subst, ◌∙◌}
use Rattle.std.proofs.lemmas.List.{drop_all}
use Rattle.fir_ast.specs.Expressions.{literal, mux, operation, validif}
use Rattle.fir_ast.specs.Statements.{SinkReference}
use Rattle.fir_ast.specs.working.Views.{expr_of, expressions_of, parts_of, sink_of}
use Rattle.fir_ast.proofs.TreeViews.{mux_view, operation_view, validif_view}
use Rattle.fir_meaning.specs.ExpressionTypes.{expression_type}
use Rattle.fir_names.specs.working.Parts.{part_of}
use Rattle.fir_types.specs.working.Notes.{expression_note, expression_notes, notes_of_each, part_notes, reference_note}
use Rattle.fir_types.proofs.PartViews.{access_view, literal_view, parts_left, sink_view, reference_view}
use Rattle.fir_infer_resets.specs.working.Passes.{Passes}
use Rattle.fir_infer_resets.proofs.NotesPassed.{ahead_behind, ahead_three, ahead_two, operand_passed, operands_left, part_passed, passes_form, passes_none, passes_then, range_of_reference}
use Rattle.fir_infer_resets.proofs.meets.Walk.+expressions.Goals as goal

pub pass_expression-returns-in-Ref : goal.pass_expression-returns-in-Ref
pass_expression-returns-in-Ref t c =
    let seen = ap expr_of c.in-Ref.is ∙ reference_view c.in-Ref.reference in
    rw seen (λ ts scope rest ahead. record { is = λ e. absurd e; passes = (c.reference.ensures ts scope rest ahead).passes })

pub pass_expression-returns-in-Literal : goal.pass_expression-returns-in-Literal
pass_expression-returns-in-Literal t c =
    let e = literal c.in-Literal.field-0 in
    let seen = ap expr_of c.in-Literal.is ∙ literal_view c.in-Literal.field-0 in
    rw seen
    (λ ts scope rest ahead.
    let last = c.next_type.ensures ts (expression_type scope e).has rest ahead in
    record { is = λ _. last.is; passes = last.passes })

pub pass_expression-returns-in-Op : goal.pass_expression-returns-in-Op
pass_expression-returns-in-Op t c =
    let i = c.in-Op in
    let es = expressions_of (map expr_of i.operands.items) in
    let e = operation i.field-0 i.field-1 es i.field-3.items in
    let seen = ap expr_of i.is ∙ operation_view i.field-0 i.field-1 i.operands i.field-3 in
    let operands = rw c.deref.ensures.value at c.pass_operands.ensures in
    rw seen
    (λ ts scope rest ahead.
    let own = expression_note scope e ∷ [] in
    let first = operands ts scope (own ++ rest) (ahead_behind ts c.args.self.now.notes.now (notes_of_each scope es) own rest ahead) in
    passes_form ts scope e rest (own ++ rest) _ _ _ _ first (c.next_type-in-Op.ensures ts (expression_type scope e).has rest first.ahead))

pub pass_expression-returns-in-Mux : goal.pass_expression-returns-in-Mux
pass_expression-returns-in-Mux t c =
    let i = c.in-Mux in
    let x = expr_of i.condition.value in
    let y = expr_of i.one.value in
    let z = expr_of i.other.value in
    let e = mux i.field-0 x y z in
    let seen = ap expr_of i.is ∙ mux_view i.field-0 i.condition i.one i.other in
    let condition = rw c.deref-in-Mux.ensures at c.pass_expression.ensures in
    let one = rw c.deref-in-Mux-2.ensures at c.pass_expression-in-Mux.ensures in
    let other = rw c.deref-in-Mux-3.ensures at c.pass_expression-in-Mux-2.ensures in
    rw seen
    (λ ts scope rest ahead.
    let own = expression_note scope e ∷ [] in
    let third = own ++ rest in
    let second = expression_notes scope z ++ third in
    let first = expression_notes scope y ++ second in
    let a = condition ts scope first
    (ahead_three ts c.args.self.now.notes.now (expression_notes scope x) (expression_notes scope y) (expression_notes scope z) own rest ahead) in
    let b = one ts scope second a.passes.ahead in
    let d = other ts scope third b.passes.ahead in
    passes_form ts scope e rest third _ _ _ _ (passes_then ts second third _ _ _ (passes_then ts first second _ _ _ a.passes b.passes) d.passes)
    (c.next_type-in-Mux.ensures ts (expression_type scope e).has rest d.passes.ahead))

pub pass_expression-returns-in-Validif : goal.pass_expression-returns-in-Validif
pass_expression-returns-in-Validif t c =
    let i = c.in-Validif in
    let x = expr_of i.condition.value in
    let y = expr_of i.value.value in
    let e = validif i.field-0 x y in
    let seen = ap expr_of i.is ∙ validif_view i.field-0 i.condition i.value in
    let condition = rw c.deref-in-Validif.ensures at c.pass_expression-in-Validif.ensures in
    let value = rw c.deref-in-Validif-2.ensures at c.pass_expression-in-Validif-2.ensures in
    rw seen
    (λ ts scope rest ahead.
    let own = expression_note scope e ∷ [] in
    let second = own ++ rest in
    let first = expression_notes scope y ++ second in
    let a = condition ts scope first (ahead_two ts c.args.self.now.notes.now (expression_notes scope x) (expression_notes scope y) own rest ahead) in
    let b = value ts scope second a.passes.ahead in
    passes_form ts scope e rest second _ _ _ _ (passes_then ts first second _ _ _ a.passes b.passes)
    (c.next_type-in-Validif.ensures ts (expression_type scope e).has rest b.passes.ahead))

pub pass_part-returns-in-Access : goal.pass_part-returns-in-Access
pass_part-returns-in-Access t c =
    let i = c.in-Access in
    let x = expr_of i.expr.value in
    let seen = ap part_of i.is ∙ access_view i.field-0 i.expr in
    let index = rw c.deref.ensures at c.pass_expression.ensures in
    rw seen
    (λ ts scope parts rest ahead.
    (index ts scope (part_notes scope parts ++ rest) (ahead_behind ts c.args.self.now.notes.now (expression_notes scope x) (part_notes scope parts) rest ahead)).passes)

pub pass_operands-loop-operand-init : goal.pass_operands-loop-operand-init
pass_operands-loop-operand-init t c = λ ts scope rest ahead. passes_none ts (notes_of_each scope (expressions_of (map expr_of c.args.operands.now)) ++ rest) c.args.self.now ahead

pub pass_operands-loop-operand-preserved : goal.pass_operands-loop-operand-preserved
pass_operands-loop-operand-preserved t c =
    let operands = c.args.operands.now in
    let i = c.loop-operand.operand-index in
    let x = c.operand-item.result in
    let left = operands_left operands i x c.loop-operand-test.true c.operand-item.is in
    λ ts scope rest ahead.
    operand_passed ts scope (expressions_of (map expr_of (drop i operands))) (expr_of x) (expressions_of (map expr_of (drop (i + 1) operands))) rest c.pass_expression.result
    c.args.self.now c.loop-operand.self c.pass_expression.new.self left (c.loop-operand.invariant ts scope rest ahead) (c.pass_expression.ensures ts scope)

pub pass_operands-returns : goal.pass_operands-returns
pass_operands-returns t c =
    let none = drop_all c.loop-operand.operand-index c.args.operands.now c.loop-operand-test.false in
    λ ts scope rest ahead.
    subst (λ xs. Passes ts (notes_of_each scope (expressions_of (map expr_of xs)) ++ rest) c.args.self.now c.loop-operand.self) none
    (c.loop-operand.invariant ts scope rest ahead)

pub reference-loop-part-init : goal.reference-loop-part-init
reference-loop-part-init t c =
    let r = c.args.reference.now in
    let parts = ap (λ xs. parts_of (map part_of xs)) c.deref-part-items.ensures.value in
    let same = ap (λ (x : SinkReference). x.parts) (sink_view r) ∙ sym parts in
    λ ts scope rest ahead.
    subst (λ ps. Passes ts (part_notes scope ps ++ rest) c.args.self.now c.args.self.now) same
    (passes_none ts (part_notes scope (sink_of r).parts ++ rest) c.args.self.now ahead)

pub reference-loop-part-preserved : goal.reference-loop-part-preserved
reference-loop-part-preserved t c =
    let parts = c.deref-part-items.result.now in
    let i = c.loop-part.part-index in
    let x = c.part-item.result in
    let rest_of = parts_of (map part_of (drop (i + 1) parts)) in
    let left = parts_left parts i x c.loop-part-test.true c.part-item.is in
    λ ts scope rest ahead.
    part_passed ts scope (parts_of (map part_of (drop i parts))) (part_of x) rest_of rest c.args.self.now c.loop-part.self c.pass_part.new.self left
    (c.loop-part.invariant ts scope rest ahead) (c.pass_part.ensures ts scope rest_of rest)

pub reference-returns : goal.reference-returns
reference-returns t c =
    let s = sink_of c.args.reference.now in
    let none = drop_all c.loop-part.part-index c.deref-part-items.result.now c.loop-part-test.false in
    λ ts scope rest ahead.
    let own = reference_note scope s ∷ [] in
    let so_far = c.loop-part.invariant ts scope (own ++ rest) (ahead_behind ts c.args.self.now.notes.now (part_notes scope s.parts) own rest ahead) in
    let before = subst (λ xs. Passes ts (part_notes scope (parts_of (map part_of xs)) ++ (own ++ rest)) c.args.self.now c.loop-part.self) none so_far in
    let last = c.next_range.ensures ts (range_of_reference scope s) rest before.ahead in
    record { is = last.is; passes = passes_then ts (own ++ rest) rest _ _ _ before last.passes }
