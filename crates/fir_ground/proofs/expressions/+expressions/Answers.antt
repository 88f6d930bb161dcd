use Rattle.std.proofs.Common.{◌+◌, [], ◌∷◌, ◌++◌, map, drop, refl, sym, ap, subst, ◌∙◌, append_assoc}
use Rattle.std.proofs.lemmas.List.{drop_all}
use Rattle.std.proofs.lemmas.Result.{IfOk-weaker}
use Rattle.fir_ast.specs.Expressions.{literal, mux, operation, reference, subaccess, validif}
use Rattle.fir_ast.specs.Statements.{SinkReference}
use Rattle.fir_ast.specs.working.Views.{expr_of, expressions_of, parts_of, sink_of}
use Rattle.fir_ast.proofs.TreeViews.{mux_view, operation_view, validif_view}
use Rattle.fir_meaning.specs.ExpressionPlaces.{place_of}
use Rattle.fir_meaning.specs.working.WellTyped.{HasType, Leads, Reaches as ReachesThere}
use Rattle.fir_names.specs.working.Parts.{part_of}
use Rattle.fir_names.proofs.FirstMentions.{views_left}
use Rattle.fir_types.specs.working.Notes.{expression_note, part_notes, reference_note, reference_notes}
use Rattle.fir_types.proofs.PartViews.{access_view, literal_view, parts_left, sink_view}
use Rattle.fir_meaning.specs.working.Leafed.{target_of, target_terms, terms}
use Rattle.fir_ground.specs.working.Grounds.{Enters}
use Rattle.fir_ground.proofs.Coming.{come_then, expands_first, expands_nodes}
use Rattle.fir_ground.proofs.FormsCome.{mux_comes, operation_comes, validif_comes}
use Rattle.fir_ground.proofs.NamedTargets.{within_cost}
use Rattle.fir_ground.proofs.OperandsCome.{OperandsSoFar, operands_done, operands_first, operands_next}
use Rattle.fir_ground.proofs.PartsCome.{PartsSoFar, access_comes, parts_first, parts_next, parts_passed, reference_view}
use Rattle.fir_ground.proofs.expressions.+expressions.Goals as goal

pub in_expression-returns-in_ok-target-in-Ref : goal.in_expression-returns-in_ok-target-in-Ref
in_expression-returns-in_ok-target-in-Ref t c =
    let s = sink_of c.in-Ref.reference in
    let seen = ap expr_of c.in-Ref.is ∙ reference_view c.in-Ref.reference in
    λ typed ty rest enters typed_as.
    let begins : Enters c.args.ground.now typed (reference_notes typed s ++ rest) c.args.walk.now = rw seen at enters in
    let of : HasType typed (reference s.place s.name s.parts) ty = rw seen at typed_as in
    let reaches : ReachesThere typed s of.1 = (of.0, of.2, of.3) in
    let named = c.in_ok-target-in-Ref.ensures typed of.1 rest begins reaches in
    rw seen
    (IfOk-weaker c.read_all.result _ _
    (λ ids gives.
    expands_nodes c.args.ground.now rest c.args.walk.now c.in_reference.new.walk (record c.in_reference.new.walk { nodes = c.read_all.new.nodes }) ids.items
    (target_terms (target_of typed s)) named.comes refl refl gives)
    (c.read_all.ensures (target_of typed s) named.names (within_cost typed s of.1 enters.stands.small reaches)))

pub in_expression-returns-in-Literal :
    goal.in_expression-returns-in-Literal
in_expression-returns-in-Literal t c =
    let l = c.in-Literal.literal in
    let seen = ap expr_of c.in-Literal.is ∙ literal_view l in
    λ typed ty rest enters typed_as.
    let begins : Enters c.args.ground.now typed (expression_note typed (literal l) ∷ rest) c.args.walk.now = rw seen at enters in
    rw seen (c.on_literal.ensures c.args.ground.now (expression_note typed (literal l)) rest begins.ahead)

pub in_expression-returns-in_ok-operands-in-Op :
    goal.in_expression-returns-in_ok-operands-in-Op
in_expression-returns-in_ok-operands-in-Op t c =
    let p = c.in-Op.field-0 in
    let op = c.in-Op.op in
    let es = expressions_of (map expr_of c.in-Op.operands.items) in
    let ks = c.in-Op.integers.items in
    let seen = ap expr_of c.in-Op.is ∙ operation_view p op c.in-Op.operands c.in-Op.integers in
    let operands = rw c.deref.ensures.value at c.in_ok-operands-in-Op.ensures in
    let form = rw c.deref-in-Op.ensures.value at c.on_operation.ensures in
    λ typed ty rest enters typed_as.
    let of : HasType typed (operation p op es ks) ty = rw seen at typed_as in
    rw seen
    (operation_comes c.args.ground.now typed rest ty c.on_operation.result (λ ids. ids.items) p op es ks c.args.walk.now c.in_operands.new.walk c.on_operation.new.walk c.in_ok-operands-in-Op.operands.items
    (rw seen at enters) of (operands typed) (form c.args.ground.now))

pub in_expression-returns-in_ok-other-in-Mux : goal.in_expression-returns-in_ok-other-in-Mux
in_expression-returns-in_ok-other-in-Mux t c =
    let p = c.in-Mux.field-0 in
    let x = expr_of c.in-Mux.condition.value in
    let y = expr_of c.in-Mux.one.value in
    let z = expr_of c.in-Mux.other.value in
    let seen = ap expr_of c.in-Mux.is ∙ mux_view p c.in-Mux.condition c.in-Mux.one c.in-Mux.other in
    let condition = rw c.deref-in-Mux.ensures at c.in_ok-condition-in-Mux.ensures in
    let one = rw c.deref-in-Mux-2.ensures at c.in_ok-one-in-Mux.ensures in
    let other = rw c.deref-in-Mux-3.ensures at c.in_ok-other-in-Mux.ensures in
    let form = rw (c.deref-in-Mux-4.ensures.value, c.deref-in-Mux-5.ensures.value) at c.on_mux.ensures in
    λ typed ty rest enters typed_as.
    let of : HasType typed (mux p x y z) ty = rw seen at typed_as in
    rw seen
    (mux_comes c.args.ground.now typed rest ty c.on_mux.result (λ ids. ids.items) p x y z c.args.walk.now c.in_first.new.walk c.in_expression.new.walk c.in_expression-in-Mux.new.walk c.on_mux.new.walk
    c.in_ok-condition-in-Mux.condition c.in_ok-one-in-Mux.one.items c.in_ok-other-in-Mux.other.items (rw seen at enters) of (condition typed) (one typed)
    (other typed) (form c.args.ground.now))

pub in_expression-returns-in_ok-value-in-Validif :
    goal.in_expression-returns-in_ok-value-in-Validif
in_expression-returns-in_ok-value-in-Validif t c =
    let p = c.in-Validif.field-0 in
    let x = expr_of c.in-Validif.condition.value in
    let y = expr_of c.in-Validif.value.value in
    let seen = ap expr_of c.in-Validif.is ∙ validif_view p c.in-Validif.condition c.in-Validif.value in
    let condition = rw c.deref-in-Validif.ensures at c.in_ok-condition-in-Validif.ensures in
    let value = rw c.deref-in-Validif-2.ensures at c.in_ok-value-in-Validif.ensures in
    let form = rw c.deref-in-Validif-3.ensures.value at c.on_validif.ensures in
    λ typed ty rest enters typed_as.
    let of : HasType typed (validif p x y) ty = rw seen at typed_as in
    rw seen
    (validif_comes c.args.ground.now typed rest ty c.on_validif.result (λ ids. ids.items) p x y c.args.walk.now c.in_first-in-Validif.new.walk c.in_expression-in-Validif.new.walk c.on_validif.new.walk
    c.in_ok-condition-in-Validif.condition c.in_ok-value-in-Validif.value.items (rw seen at enters) of (condition typed) (value typed)
    (form c.args.ground.now))

pub in_first-returns : goal.in_first-returns
in_first-returns t c =
    let first = rw c.deref.ensures.value at c.first.ensures in
    λ typed ty rest enters typed_as.
    let all = c.in_ok-ids.ensures typed ty rest enters typed_as in
    IfOk-weaker c.first.result _ _
    (λ id shows.
    expands_first c.args.ground.now rest c.args.walk.now c.in_expression.new.walk (record c.in_expression.new.walk { nodes = c.first.new.nodes })
    c.in_ok-ids.ids.items id (terms typed (expr_of c.args.expr.now)) all refl refl (λ within. shows))
    (first all.gives.within)

pub in_operands-loop-operand-init : goal.in_operands-loop-operand-init
in_operands-loop-operand-init t c =
    λ typed ts rest enters have.
    operands_first c.args.ground.now typed rest (expressions_of (map expr_of c.args.operands.now)) c.args.walk.now enters ts c.new-ids.result.items have c.new-ids.ensures.items

pub in_operands-loop-operand-preserved : goal.in_operands-loop-operand-preserved
in_operands-loop-operand-preserved t c =
    let operands = c.args.operands.now in
    let i = c.loop-operand.operand-index in
    let whole = expressions_of (map expr_of operands) in
    let e = expr_of c.operand-item.result in
    let es = expressions_of (map expr_of (drop (i + 1) operands)) in
    let left = ap expressions_of (views_left expr_of operands i c.operand-item.result c.loop-operand-test.true c.operand-item.is) in
    λ typed ts rest enters have.
    let so_far = subst (λ l. OperandsSoFar c.args.ground.now typed rest whole l c.args.walk.now c.loop-operand.walk c.loop-operand.ids.items) left
    (c.loop-operand.invariant typed ts rest enters have) in
    operands_next c.args.ground.now typed rest whole c.args.walk.now enters e es c.loop-operand.walk c.in_first.new.walk c.loop-operand.ids.items c.push.new.self.items c.in_ok-in_first.field-0
    so_far (c.in_ok-in_first.ensures typed) c.in_ok-push.ensures.items

pub in_operands-returns : goal.in_operands-returns
in_operands-returns t c =
    let none = ap (λ es. expressions_of (map expr_of es)) (drop_all c.loop-operand.operand-index c.args.operands.now c.loop-operand-test.false) in
    λ typed ts rest enters have.
    operands_done c.args.ground.now typed rest (expressions_of (map expr_of c.args.operands.now)) c.args.walk.now enters
    (expressions_of (map expr_of (drop c.loop-operand.operand-index c.args.operands.now))) c.loop-operand.walk c.loop-operand.ids.items
    (c.loop-operand.invariant typed ts rest enters have) none

pub in_part-returns-in_ok-push-in-Access : goal.in_part-returns-in_ok-push-in-Access
in_part-returns-in_ok-push-in-Access t c =
    let q = c.in-Access.field-0 in
    let e = expr_of c.in-Access.expr.value in
    let seen = ap part_of c.in-Access.is ∙ access_view q c.in-Access.expr in
    let gives = rw c.deref.ensures at c.in_ok-node-in-Access.ensures in
    let place = c.place_of.ensures ∙ ap (λ x. place_of (expr_of x)) c.deref-in-Access.ensures in
    λ typed r s parts rest done enters leads are.
    let of : Leads typed r (subaccess q e parts) s = rw seen at leads in
    rw seen
    (access_comes c.args.ground.now typed q e parts rest r s c.args.walk.now c.in_first.new.walk done c.args.indices.now.items c.push.new.self.items _ (rw seen at enters) of are (gives typed)
    place c.in_ok-push-in-Access.ensures.items)

pub in_reference-loop-part-init : goal.in_reference-loop-part-init
in_reference-loop-part-init t c =
    let r = c.args.reference.now in
    let parts = ap (λ xs. parts_of (map part_of xs)) c.deref-part-items.ensures.value in
    let same = ap (λ (x : SinkReference). x.parts) (sink_view r) ∙ sym parts in
    λ typed end rest enters reaches.
    subst (λ ps. PartsSoFar c.args.ground.now typed rest end (sink_of r).parts ps c.args.walk.now c.args.walk.now c.new-indices.result.items) same
    (parts_first c.args.ground.now typed rest end (sink_of r).parts c.args.walk.now enters reaches.0 c.new-indices.result.items reaches.2 c.new-indices.ensures.items)

pub in_reference-loop-part-preserved : goal.in_reference-loop-part-preserved
in_reference-loop-part-preserved t c =
    let s = sink_of c.args.reference.now in
    let parts = c.deref-part-items.result.now in
    let i = c.loop-part.part-index in
    let rest_of = parts_of (map part_of (drop (i + 1) parts)) in
    let left = parts_left parts i c.part-item.result c.loop-part-test.true c.part-item.is in
    λ typed end rest enters reaches.
    let so_far = subst (λ ps. PartsSoFar c.args.ground.now typed rest end s.parts ps c.args.walk.now c.loop-part.walk c.loop-part.indices.items) left
    (c.loop-part.invariant typed end rest enters reaches) in
    parts_next c.args.ground.now typed rest end s.parts c.args.walk.now enters c.part-item.result rest_of c.loop-part.walk c.in_part.new.walk c.loop-part.indices.items
    c.in_part.new.indices.items so_far (λ r done here leads are. c.in_ok-in_part.ensures typed r end rest_of rest done here leads are)

pub in_reference-returns : goal.in_reference-returns
in_reference-returns t c =
    let s = sink_of c.args.reference.now in
    let g = c.args.ground.now in
    let none = ap (λ ps. parts_of (map part_of ps)) (drop_all c.loop-part.part-index c.deref-part-items.result.now c.loop-part-test.false) in
    let start = c.args.walk.now in
    let passed_by = c.loop-part.walk in
    let names = rw c.deref.ensures.value at c.named.ensures in
    λ typed end rest enters reaches.
    let front = reference_note typed s ∷ rest in
    let begins = subst (λ ns. Enters g typed ns start) (append_assoc (part_notes typed s.parts) (reference_note typed s ∷ []) rest) enters in
    let passed =
    parts_passed g typed front end s.parts start begins (parts_of (map part_of (drop c.loop-part.part-index c.deref-part-items.result.now))) passed_by c.loop-part.indices.items
    (c.loop-part.invariant typed end front begins reaches) none in
    IfOk-weaker c.named.result _ _
    (λ target own. record { comes = come_then g front rest start passed_by c.named.new.walk passed.comes own.comes; names = own.names })
    (names typed s end rest passed.behind reaches passed.are)
