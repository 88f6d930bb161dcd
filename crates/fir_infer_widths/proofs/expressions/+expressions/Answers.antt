use Rattle.std.proofs.Common.{◌+◌, [], ◌∷◌, ◌++◌, map, drop, refl, sym, ap, subst, ◌∙◌, append_assoc}
use Rattle.std.proofs.lemmas.List.{drop_all}
use Rattle.fir_ast.specs.Expressions.{mux, operation, subaccess, validif}
use Rattle.fir_ast.specs.Statements.{SinkReference}
use Rattle.fir_ast.specs.working.Views.{expr_of, expressions_of, parts_of, sink_of}
use Rattle.fir_ast.proofs.TreeViews.{mux_view, operation_view, validif_view}
use Rattle.fir_meaning.specs.SizedScopes.{sink_expression, sized_type}
use Rattle.fir_meaning.specs.working.WellTyped.{HasType, Leads}
use Rattle.fir_names.specs.working.Parts.{part_of}
use Rattle.fir_names.proofs.FirstMentions.{views_left}
use Rattle.fir_types.specs.working.Notes.{notes_of_each, part_notes, reference_note}
use Rattle.fir_types.proofs.PartViews.{access_view, parts_left, sink_view}
use Rattle.fir_infer_widths.specs.declared.spot.Spot.TheVariants as code
use Rattle.fir_infer_widths.specs.declared.walk.Walk.{Walk}
use Rattle.fir_infer_widths.specs.working.Numbered.{Keeps}
use Rattle.fir_infer_widths.specs.working.Spots.{of_condition, of_expression, spots_within, spots_within_parts}
use Rattle.fir_infer_widths.specs.working.Walks.{Enters, types_in}
use Rattle.fir_infer_widths.proofs.Coming.{come_read, come_to_then}
use Rattle.fir_infer_widths.proofs.ExpressionSpots.{condition_spot, reference_spot}
use Rattle.fir_infer_widths.proofs.OperandSides.{SidesSoFar, sides_done, sides_first, sides_next}
use Rattle.fir_infer_widths.proofs.FormsCome.{access_comes, mux_comes, operation_comes, validif_comes}
use Rattle.fir_infer_widths.proofs.OperandsCome.{come_spot}
use Rattle.fir_infer_widths.proofs.ReferenceSides.{PartsSoFar, parts_first, parts_next, parts_passed, reference_view}
use Rattle.fir_infer_widths.proofs.expressions.+expressions.Goals as goal

pub in_condition-returns : goal.in_condition-returns
in_condition-returns t c = λ tree typed sized ty meant rules rest enters typed_as.
    let scene = c.args.ground.now in
    let e = expr_of c.args.condition.now in
    let side = c.in_ok-side.side in
    let own = c.in_ok-side.ensures tree typed sized ty meant rules rest enters typed_as in
    come_spot tree scene meant rules rest (spots_within sized e) (code.Condition c.place_of.result side) (of_condition sized e) (sized_type sized e) c.args.walk.now c.in_expression.new.walk _ side own
    refl refl refl c.in_ok-put_spot.ensures (rw c.place_of.ensures (condition_spot tree (types_in scene) (meant ++ own.comes.more) sized e side own.is))

pub in_expression-returns-in-Ref : goal.in_expression-returns-in-Ref
in_expression-returns-in-Ref t c =
    let seen = ap expr_of c.in-Ref.is ∙ reference_view c.in-Ref.reference in
    λ tree typed sized ty meant rules rest enters typed_as.
    let of : HasType typed (sink_expression (sink_of c.in-Ref.reference)) ty = rw seen at typed_as in
    rw seen (c.in_reference.ensures tree typed sized of.1 meant rules rest (rw seen at enters) (of.0, of.2, of.3))

pub in_expression-returns-in_ok-sides-in-Op : goal.in_expression-returns-in_ok-sides-in-Op
in_expression-returns-in_ok-sides-in-Op t c =
    let p = c.in-Op.place in
    let op = c.in-Op.op in
    let es = expressions_of (map expr_of c.in-Op.operands.items) in
    let ks = c.in-Op.integers.items in
    let seen = ap expr_of c.in-Op.is ∙ operation_view p op c.in-Op.operands c.in-Op.integers in
    let operands = rw c.deref.ensures.value at c.in_ok-sides-in-Op.ensures in
    let form = rw (c.deref-in-Op.ensures.value, c.as_slice.ensures.value) at c.on_operation.ensures in
    λ tree typed sized ty meant rules rest enters typed_as.
    let of : HasType typed (operation p op es ks) ty = rw seen at typed_as in
    rw seen
    (operation_comes tree c.args.ground.now typed sized meant rules rest ty p op es ks c.args.walk.now c.in_operands.new.walk c.on_operation.new.walk c.in_ok-sides-in-Op.sides.items c.on_operation.result
    (rw seen at enters) of (operands tree typed sized) (λ before asked here sides. form tree typed sized es ty before asked rest here of sides))

pub in_expression-returns-in_ok-other-in-Mux : goal.in_expression-returns-in_ok-other-in-Mux
in_expression-returns-in_ok-other-in-Mux t c =
    let p = c.in-Mux.place in
    let x = expr_of c.in-Mux.condition.value in
    let y = expr_of c.in-Mux.one.value in
    let z = expr_of c.in-Mux.other.value in
    let seen = ap expr_of c.in-Mux.is ∙ mux_view p c.in-Mux.condition c.in-Mux.one c.in-Mux.other in
    let condition = rw c.deref-in-Mux.ensures at c.in_ok-condition-in-Mux.ensures in
    let one = rw c.deref-in-Mux-2.ensures at c.in_ok-one-in-Mux.ensures in
    let other = rw c.deref-in-Mux-3.ensures at c.in_ok-other-in-Mux.ensures in
    λ tree typed sized ty meant rules rest enters typed_as.
    let of : HasType typed (mux p x y z) ty = rw seen at typed_as in
    rw seen
    (mux_comes tree c.args.ground.now typed sized meant rules rest ty p x y z c.args.walk.now c.in_condition.new.walk c.in_expression.new.walk c.in_expression-in-Mux.new.walk c.on_mux.new.walk
    c.in_ok-condition-in-Mux.condition c.in_ok-one-in-Mux.one c.in_ok-other-in-Mux.other c.on_mux.result (rw seen at enters) of (condition tree typed sized) (one tree typed sized) (other tree typed sized)
    (λ before asked here first second third. c.on_mux.ensures tree typed sized x y z ty before asked rest here of first second third))

pub in_expression-returns-in_ok-value-in-Validif :
    goal.in_expression-returns-in_ok-value-in-Validif
in_expression-returns-in_ok-value-in-Validif t c =
    let p = c.in-Validif.place in
    let x = expr_of c.in-Validif.condition.value in
    let y = expr_of c.in-Validif.value.value in
    let seen = ap expr_of c.in-Validif.is ∙ validif_view p c.in-Validif.condition c.in-Validif.value in
    let condition = rw c.deref-in-Validif.ensures at c.in_ok-condition-in-Validif.ensures in
    let value = rw c.deref-in-Validif-2.ensures at c.in_ok-value-in-Validif.ensures in
    λ tree typed sized ty meant rules rest enters typed_as.
    let of : HasType typed (validif p x y) ty = rw seen at typed_as in
    rw seen
    (validif_comes tree c.args.ground.now typed sized meant rules rest ty p x y c.args.walk.now c.in_condition-in-Validif.new.walk c.in_expression-in-Validif.new.walk c.on_validif.new.walk
    c.in_ok-condition-in-Validif.condition c.in_ok-value-in-Validif.value c.on_validif.result (rw seen at enters) of (condition tree typed sized) (value tree typed sized)
    (λ before asked here first second. c.on_validif.ensures tree typed sized x y ty before asked rest here of first second))

pub in_operands-loop-operand-init : goal.in_operands-loop-operand-init
in_operands-loop-operand-init t c = λ tree typed sized ts meant rules rest enters have.
    sides_first tree c.args.ground.now typed sized meant rules rest (expressions_of (map expr_of c.args.operands.now)) c.args.walk.now enters ts c.new-sides.result.items have c.new-sides.ensures.items

pub in_operands-loop-operand-preserved : goal.in_operands-loop-operand-preserved
in_operands-loop-operand-preserved t c =
    let operands = c.args.operands.now in
    let i = c.loop-operand.operand-index in
    let whole = expressions_of (map expr_of operands) in
    let e = expr_of c.operand-item.result in
    let es = expressions_of (map expr_of (drop (i + 1) operands)) in
    let left = ap expressions_of (views_left expr_of operands i c.operand-item.result c.loop-operand-test.true c.operand-item.is) in
    λ tree typed sized ts meant rules rest enters have.
    let so_far = subst (λ l. SidesSoFar tree c.args.ground.now typed sized meant rules rest whole l c.args.walk.now c.loop-operand.walk c.loop-operand.sides.items) left
    (c.loop-operand.invariant tree typed sized ts meant rules rest enters have) in
    sides_next tree c.args.ground.now typed sized meant rules rest whole c.args.walk.now enters e es c.loop-operand.walk c.in_expression.new.walk c.loop-operand.sides.items c.push.new.self.items
    c.in_ok-in_expression.field-0 so_far
    (λ ty before asked here typed_as. c.in_ok-in_expression.ensures tree typed sized ty before asked (notes_of_each typed es ++ rest) here typed_as) c.in_ok-push.ensures.items

pub in_operands-returns : goal.in_operands-returns
in_operands-returns t c =
    let none = ap (λ es. expressions_of (map expr_of es)) (drop_all c.loop-operand.operand-index c.args.operands.now c.loop-operand-test.false) in
    λ tree typed sized ts meant rules rest enters have.
    sides_done tree c.args.ground.now typed sized meant rules rest (expressions_of (map expr_of c.args.operands.now)) c.args.walk.now enters
    (expressions_of (map expr_of (drop c.loop-operand.operand-index c.args.operands.now))) c.loop-operand.walk c.loop-operand.sides.items
    (c.loop-operand.invariant tree typed sized ts meant rules rest enters have) none

pub in_part-returns-in_ok-in_expression-in-Access :
    goal.in_part-returns-in_ok-in_expression-in-Access
in_part-returns-in_ok-in_expression-in-Access t c =
    let q = c.in-Access.field-0 in
    let e = expr_of c.in-Access.expr.value in
    let seen = ap part_of c.in-Access.is ∙ access_view q c.in-Access.expr in
    let gives = rw c.deref.ensures at c.in_ok-in_expression-in-Access.ensures in
    λ tree typed sized r s parts meant rules rest enters leads.
    let of : Leads typed r (subaccess q e parts) s = rw seen at leads in
    rw seen (access_comes tree c.args.ground.now typed sized q e parts meant rules rest r s c.args.walk.now c.in_expression.new.walk c.in_ok-in_expression-in-Access.field-0 (rw seen at enters) of (gives tree typed sized))

pub in_reference-loop-part-init : goal.in_reference-loop-part-init
in_reference-loop-part-init t c =
    let r = c.args.reference.now in
    let parts = ap (λ xs. parts_of (map part_of xs)) c.deref-part-items.ensures.value in
    let same = ap (λ (x : SinkReference). x.parts) (sink_view r) ∙ sym parts in
    λ tree typed sized end meant rules rest enters reaches.
    subst (λ ps. PartsSoFar tree c.args.ground.now typed sized meant rules rest end (sink_of r).parts ps c.args.walk.now c.args.walk.now) same
    (parts_first tree c.args.ground.now typed sized meant rules rest end (sink_of r).parts c.args.walk.now enters reaches.0 reaches.2)

pub in_reference-loop-part-preserved : goal.in_reference-loop-part-preserved
in_reference-loop-part-preserved t c =
    let s = sink_of c.args.reference.now in
    let parts = c.deref-part-items.result.now in
    let i = c.loop-part.part-index in
    let rest_of = parts_of (map part_of (drop (i + 1) parts)) in
    let left = parts_left parts i c.part-item.result c.loop-part-test.true c.part-item.is in
    λ tree typed sized end meant rules rest enters reaches.
    let so_far = subst (λ ps. PartsSoFar tree c.args.ground.now typed sized meant rules rest end s.parts ps c.args.walk.now c.loop-part.walk) left
    (c.loop-part.invariant tree typed sized end meant rules rest enters reaches) in
    parts_next tree c.args.ground.now typed sized meant rules rest end s.parts c.args.walk.now enters c.part-item.result rest_of c.loop-part.walk c.in_part.new.walk so_far
    (λ r before asked here leads. c.in_ok-in_part.ensures tree typed sized r end rest_of before asked rest here leads)

pub in_reference-returns : goal.in_reference-returns
in_reference-returns t c =
    let s = sink_of c.args.reference.now in
    let none = ap (λ ps. parts_of (map part_of ps)) (drop_all c.loop-part.part-index c.deref-part-items.result.now c.loop-part-test.false) in
    let scene = c.args.ground.now in
    let start = c.args.walk.now in
    let passed_by = c.loop-part.walk in
    let side = c.named-side.result in
    let own = code.Reference c.args.reference side in
    let stays = c.named-side.ensures.stays in
    λ tree typed sized end meant rules rest enters reaches.
    let front = reference_note typed s ∷ rest in
    let begins = subst (λ ns. Enters scene typed sized meant rules ns start) (append_assoc (part_notes typed s.parts) (reference_note typed s ∷ []) rest) enters in
    let passed =
    parts_passed tree scene typed sized meant rules front end s.parts start begins (parts_of (map part_of (drop c.loop-part.part-index c.deref-part-items.result.now))) passed_by
    (c.loop-part.invariant tree typed sized end meant rules front begins reaches) none in
    let all = meant ++ passed.comes.more in
    let is = c.named-side.ensures.side typed sized s end all (rules ++ []) rest passed.behind reaches in
    come_to_then tree scene meant rules front (spots_within_parts sized s.parts) start passed_by passed.comes passed.stays rest (of_expression sized (sink_expression s) ∷ [])
    (sized_type sized (sink_expression s)) _ side
    (come_read tree scene all (rules ++ []) rest own (of_expression sized (sink_expression s)) (sized_type sized (sink_expression s)) passed_by _ side
    (subst (Keeps all (rules ++ [])) (sym (ap (λ (x : Walk). x.arena) stays)) passed.behind.keeps)
    (c.named-side.ensures.ahead (types_in scene) (reference_note typed s) rest passed.behind.ahead)
    (c.in_ok-put_spot.ensures ∙ ap (λ (x : Walk). x.spots.items ++ own ∷ []) stays)
    (ap (λ (x : Walk). x.declared) stays) is (reference_spot tree (types_in scene) all sized c.args.reference side is))
