use Rattle.std.proofs.Common.{◌+◌, ◌++◌, map, drop, sym, ap, ◌∙◌}
use Rattle.std.specs.Prelude.{option_map}
use Rattle.std.proofs.lemmas.Result.{IfOk-weaker}
use Rattle.std.proofs.lemmas.List.{drop_all}
use Rattle.fir_ast.specs.Expressions.{mux, operation, validif}
use Rattle.fir_ast.specs.working.Views.{expr_of, expressions_of, parts_of}
use Rattle.fir_ast.proofs.TreeViews.{mux_view, operation_view, validif_view}
use Rattle.fir_ast.specs.working.CodeFaults.{fault_of}
use Rattle.fir_pass.specs.Groups.{first_of}
use Rattle.fir_meaning.specs.Mentions.{expression_mentions, operand_mentions, part_mentions}
use Rattle.fir_meaning.specs.NameGroups.{faults_in}
use Rattle.fir_names.specs.working.Parts.{part_of}
use Rattle.fir_names.proofs.FirstMentions.{front_silent, front_told, silent, told, views_left}
use Rattle.fir_resolve.proofs.PassedMentions.{expression_told, first_of_three, second_of_three, third_of_three}
use Rattle.fir_resolve.proofs.WalkedReferences.{behind_name, name_told, part_silent, part_told}
use Rattle.fir_resolve.proofs.expressions.+expressions.Goals as goal

pub in_expression-returns-in_ok-fault-in-Op : goal.in_expression-returns-in_ok-fault-in-Op
in_expression-returns-in_ok-fault-in-Op t c =
    let i = c.in-Op in
    let view = ap expr_of i.is ∙ operation_view i.field-0 i.field-1 i.operands i.field-3 in
    let whole = operation i.field-0 i.field-1 (expressions_of (map expr_of i.operands.items)) i.field-3.items in
    let operands = rw c.deref.ensures.value at c.in_ok-fault-in-Op.ensures in
    IfOk-weaker c.with_note-in-Op.result _ _
    (λ f same. λ visible seen. expression_told visible (expr_of c.args.expr.now) whole _ view (ap (option_map fault_of) same ∙ operands visible seen))
    c.with_note-in-Op.ensures

pub in_expression-returns-in-Some : goal.in_expression-returns-in-Some
in_expression-returns-in-Some t c =
    let i = c.in-Mux in
    let view = ap expr_of i.is ∙ mux_view i.field-0 i.condition i.high i.low in
    let condition = rw c.deref-in-Mux.ensures at c.in_ok-fault-in-Mux.ensures in
    λ visible seen.
    let x = expression_mentions visible (expr_of i.condition.value) in
    let y = expression_mentions visible (expr_of i.high.value) in
    let z = expression_mentions visible (expr_of i.low.value) in
    let whole = mux i.field-0 (expr_of i.condition.value) (expr_of i.high.value) (expr_of i.low.value) in
    expression_told visible (expr_of c.args.expr.now) whole _ view
    (first_of_three x y z (fault_of c.in-Some.fault) (told c.in_ok-fault-in-Mux.field-0 c.in-Some.fault (first_of (faults_in x)) c.in-Some.is (condition visible seen)))

pub in_expression-returns-in-Some-2 : goal.in_expression-returns-in-Some-2
in_expression-returns-in-Some-2 t c =
    let i = c.in-Mux in
    let view = ap expr_of i.is ∙ mux_view i.field-0 i.condition i.high i.low in
    let condition = rw c.deref-in-Mux.ensures at c.in_ok-fault-in-Mux.ensures in
    let high = rw c.deref-in-Mux-2.ensures at c.in_ok-fault-in-Mux-2.ensures in
    λ visible seen.
    let x = expression_mentions visible (expr_of i.condition.value) in
    let y = expression_mentions visible (expr_of i.high.value) in
    let z = expression_mentions visible (expr_of i.low.value) in
    let whole = mux i.field-0 (expr_of i.condition.value) (expr_of i.high.value) (expr_of i.low.value) in
    expression_told visible (expr_of c.args.expr.now) whole _ view
    (second_of_three x y z (fault_of c.in-Some-2.fault)
    (silent c.in_ok-fault-in-Mux.field-0 (first_of (faults_in x)) c.in_default.is (condition visible seen))
    (told c.in_ok-fault-in-Mux-2.field-0 c.in-Some-2.fault (first_of (faults_in y)) c.in-Some-2.is (high visible seen)))

pub in_expression-returns-in_ok-fault-in-Mux-3 : goal.in_expression-returns-in_ok-fault-in-Mux-3
in_expression-returns-in_ok-fault-in-Mux-3 t c =
    let i = c.in-Mux in
    let view = ap expr_of i.is ∙ mux_view i.field-0 i.condition i.high i.low in
    let condition = rw c.deref-in-Mux.ensures at c.in_ok-fault-in-Mux.ensures in
    let high = rw c.deref-in-Mux-2.ensures at c.in_ok-fault-in-Mux-2.ensures in
    let low = rw c.deref-in-Mux-3.ensures at c.in_ok-fault-in-Mux-3.ensures in
    IfOk-weaker c.with_note-in-Mux.result _ _
    (λ f same. λ visible seen.
    let x = expression_mentions visible (expr_of i.condition.value) in
    let y = expression_mentions visible (expr_of i.high.value) in
    let z = expression_mentions visible (expr_of i.low.value) in
    let whole = mux i.field-0 (expr_of i.condition.value) (expr_of i.high.value) (expr_of i.low.value) in
    expression_told visible (expr_of c.args.expr.now) whole _ view
    (third_of_three x y z (option_map fault_of f)
    (silent c.in_ok-fault-in-Mux.field-0 (first_of (faults_in x)) c.in_default.is (condition visible seen))
    (silent c.in_ok-fault-in-Mux-2.field-0 (first_of (faults_in y)) c.in_default-2.is (high visible seen))
    (ap (option_map fault_of) same ∙ low visible seen)))
    c.with_note-in-Mux.ensures

pub in_expression-returns-in-Some-3 : goal.in_expression-returns-in-Some-3
in_expression-returns-in-Some-3 t c =
    let i = c.in-Validif in
    let view = ap expr_of i.is ∙ validif_view i.field-0 i.condition i.value in
    let condition = rw c.deref-in-Validif.ensures at c.in_ok-fault-in-Validif.ensures in
    λ visible seen.
    let x = expression_mentions visible (expr_of i.condition.value) in
    let y = expression_mentions visible (expr_of i.value.value) in
    let whole = validif i.field-0 (expr_of i.condition.value) (expr_of i.value.value) in
    expression_told visible (expr_of c.args.expr.now) whole _ view
    (front_told c.in_ok-fault-in-Validif.field-0 c.in-Some-3.fault x y c.in-Some-3.is (condition visible seen))

pub in_expression-returns-in_ok-fault-in-Validif-2 : goal.in_expression-returns-in_ok-fault-in-Validif-2
in_expression-returns-in_ok-fault-in-Validif-2 t c =
    let i = c.in-Validif in
    let view = ap expr_of i.is ∙ validif_view i.field-0 i.condition i.value in
    let condition = rw c.deref-in-Validif.ensures at c.in_ok-fault-in-Validif.ensures in
    let value = rw c.deref-in-Validif-2.ensures at c.in_ok-fault-in-Validif-2.ensures in
    IfOk-weaker c.with_note-in-Validif.result _ _
    (λ f same. λ visible seen.
    let x = expression_mentions visible (expr_of i.condition.value) in
    let y = expression_mentions visible (expr_of i.value.value) in
    let whole = validif i.field-0 (expr_of i.condition.value) (expr_of i.value.value) in
    expression_told visible (expr_of c.args.expr.now) whole _ view
    (ap (option_map fault_of) same ∙ value visible seen ∙ sym (front_silent c.in_ok-fault-in-Validif.field-0 x y c.in_default-3.is (condition visible seen))))
    c.with_note-in-Validif.ensures

pub in_operands-returns-in-Some : goal.in_operands-returns-in-Some
in_operands-returns-in-Some t c =
    let operands = c.args.operands.now in
    let i = c.loop-operand.operand-index in
    let left = ap expressions_of (views_left expr_of operands i c.operand-item.result c.loop-operand-test.true c.operand-item.is) in
    λ visible seen.
    let x = expression_mentions visible (expr_of c.operand-item.result) in
    let rest = operand_mentions visible (expressions_of (map expr_of (drop (i + 1) operands))) in
    front_told c.in_ok-fault.field-0 c.in-Some.fault x rest c.in-Some.is (c.in_ok-fault.ensures visible seen)
    ∙ ap (λ es. first_of (faults_in (operand_mentions visible es))) (sym left) ∙ sym (c.loop-operand.invariant visible seen)

pub in_operands-loop-operand-preserved : goal.in_operands-loop-operand-preserved
in_operands-loop-operand-preserved t c =
    let operands = c.args.operands.now in
    let i = c.loop-operand.operand-index in
    let left = ap expressions_of (views_left expr_of operands i c.operand-item.result c.loop-operand-test.true c.operand-item.is) in
    λ visible seen.
    let x = expression_mentions visible (expr_of c.operand-item.result) in
    let rest = operand_mentions visible (expressions_of (map expr_of (drop (i + 1) operands))) in
    c.loop-operand.invariant visible seen ∙ ap (λ es. first_of (faults_in (operand_mentions visible es))) left
    ∙ front_silent c.in_ok-fault.field-0 x rest c.in_default.is (c.in_ok-fault.ensures visible seen)

pub in_operands-returns : goal.in_operands-returns
in_operands-returns t c =
    let none = drop_all c.loop-operand.operand-index c.args.operands.now c.loop-operand-test.false in
    λ visible seen.
    sym (c.loop-operand.invariant visible seen ∙ ap (λ es. first_of (faults_in (operand_mentions visible (expressions_of (map expr_of es))))) none)

pub in_reference-returns-in-Some : goal.in_reference-returns-in-Some
in_reference-returns-in-Some t c = λ visible seen.
    name_told visible c.args.reference.now c.in_ok-fault.field-0 (c.in_ok-fault.ensures visible seen) c.in-Some.fault c.in-Some.is

pub in_reference-loop-part-init : goal.in_reference-loop-part-init
in_reference-loop-part-init t c = λ visible seen.
    ap (λ ps. first_of (faults_in (part_mentions visible (parts_of (map part_of ps))))) (sym c.deref-part-items.ensures.value)

pub in_reference-returns-in-Some-2 : goal.in_reference-returns-in-Some-2
in_reference-returns-in-Some-2 t c =
    let parts = c.deref-part-items.result.now in
    let i = c.loop-part.part-index in
    let left = ap parts_of (views_left part_of parts i c.part-item.result c.loop-part-test.true c.part-item.is) in
    λ visible seen.
    behind_name visible c.args.reference.now c.in_ok-fault.field-0 (c.in_ok-fault.ensures visible seen) _ c.in_default.is
    (part_told visible _ c.part-item.result (parts_of (map part_of (drop (i + 1) parts))) c.in_ok-fault-2.field-0 (c.in_ok-fault-2.ensures visible seen)
    (c.loop-part.invariant visible seen ∙ ap (λ ps. first_of (faults_in (part_mentions visible ps))) left) c.in-Some-2.fault c.in-Some-2.is)

pub in_reference-loop-part-preserved : goal.in_reference-loop-part-preserved
in_reference-loop-part-preserved t c =
    let parts = c.deref-part-items.result.now in
    let i = c.loop-part.part-index in
    let left = ap parts_of (views_left part_of parts i c.part-item.result c.loop-part-test.true c.part-item.is) in
    λ visible seen.
    part_silent visible _ c.part-item.result (parts_of (map part_of (drop (i + 1) parts))) c.in_ok-fault-2.field-0 (c.in_ok-fault-2.ensures visible seen)
    (c.loop-part.invariant visible seen ∙ ap (λ ps. first_of (faults_in (part_mentions visible ps))) left) c.in_default-2.is

pub in_reference-returns : goal.in_reference-returns
in_reference-returns t c =
    let none = drop_all c.loop-part.part-index c.deref-part-items.result.now c.loop-part-test.false in
    λ visible seen.
    behind_name visible c.args.reference.now c.in_ok-fault.field-0 (c.in_ok-fault.ensures visible seen) _ c.in_default.is
    (sym (c.loop-part.invariant visible seen ∙ ap (λ ps. first_of (faults_in (part_mentions visible (parts_of (map part_of ps))))) none))
