use Rattle.std.proofs.Common.{◌+◌, Some, None, map, drop, refl, ap, ◌∙◌, arith}
use Rattle.std.proofs.lemmas.Result.{IfOk-weaker}
use Rattle.std.proofs.lemmas.List.{drop_all}
use Rattle.fir_ast.specs.working.Views.{block_of, expr_of, named_of, sink_of, stmt_of}
use Rattle.fir_ast.specs.working.TypeViews.{type_of}
use Rattle.fir_ast.specs.Statements.{wire, when, connect, partial_connect, invalid}
use Rattle.fir_meaning.specs.Components as component
use Rattle.fir_names.specs.working.Parts.{when_view}
use Rattle.fir_names.proofs.FirstMentions.{views_left}
use Rattle.fir_ast.proofs.TreeViews.{connect_view}
use Rattle.fir_names.proofs.StatementViews.{wire_view, partial_connect_view, invalid_view, when_is}
use Rattle.fir_resolve.proofs.WalkedBlocks.{block_found, block_next, block_passed, passes_by}
use Rattle.fir_resolve.proofs.WalkedScopes.{sees}
use Rattle.fir_resolve.proofs.WalkedWhens.{both_passed, condition_told, first_told, second_told}
use Rattle.fir_resolve.proofs.statements.+statements.Goals as goal

pub in_statement-returns-in-Wire : goal.in_statement-returns-in-Wire
in_statement-returns-in-Wire t c =
    let i = c.in-Wire in
    let view = ap stmt_of i.is ∙ wire_view i.field-0 i.ident i.field-2 i.ty in
    IfOk-weaker c.in_typed.result _ _
    (λ f h. λ modules before numbered w.
    passes_by modules c.args.scope.now c.in_typed.new.scope before f (stmt_of c.args.statement.now)
    (wire i.field-0 (named_of i.ident) i.field-2 (type_of i.ty)) view (h modules before (component.wire (type_of i.ty)) w refl))
    c.in_typed.ensures

pub in_statement-returns-in-Connect : goal.in_statement-returns-in-Connect
in_statement-returns-in-Connect t c =
    let i = c.in-Connect in
    let view = ap stmt_of i.is ∙ connect_view i.field-0 i.sink i.source in
    IfOk-weaker c.in_connect.result _ _
    (λ f h. λ modules before numbered w.
    passes_by modules c.args.scope.now c.args.scope.now before f (stmt_of c.args.statement.now) (connect i.field-0 (sink_of i.sink) (expr_of i.source)) view
    (record { first = h before.visible (sees modules c.args.scope.now before w); walked = λ none. w; still_open = λ none. refl }))
    c.in_connect.ensures

pub in_statement-returns-in-PartialConnect : goal.in_statement-returns-in-PartialConnect
in_statement-returns-in-PartialConnect t c =
    let i = c.in-PartialConnect in
    let view = ap stmt_of i.is ∙ partial_connect_view i.field-0 i.sink i.source in
    IfOk-weaker c.in_connect-in-PartialConnect.result _ _
    (λ f h. λ modules before numbered w.
    passes_by modules c.args.scope.now c.args.scope.now before f (stmt_of c.args.statement.now)
    (partial_connect i.field-0 (sink_of i.sink) (expr_of i.source)) view
    (record { first = h before.visible (sees modules c.args.scope.now before w); walked = λ none. w; still_open = λ none. refl }))
    c.in_connect-in-PartialConnect.ensures

pub in_statement-returns-in-Invalid : goal.in_statement-returns-in-Invalid
in_statement-returns-in-Invalid t c =
    let i = c.in-Invalid in
    let view = ap stmt_of i.is ∙ invalid_view i.field-0 i.sink in
    IfOk-weaker c.in_reference.result _ _
    (λ f h. λ modules before numbered w.
    passes_by modules c.args.scope.now c.args.scope.now before f (stmt_of c.args.statement.now) (invalid i.field-0 (sink_of i.sink)) view
    (record { first = h before.visible (sees modules c.args.scope.now before w); walked = λ none. w; still_open = λ none. refl }))
    c.in_reference.ensures

pub in_block-returns-in-Some : goal.in_block-returns-in-Some
in_block-returns-in-Some t c = λ modules before numbered w.
    let body = c.args.body.now in
    let left = views_left stmt_of body c.loop-statement.statement-index c.statement-item.result c.loop-statement-test.true c.statement-item.is in
    block_found modules c.args.scope.now c.loop-statement.scope c.in_statement.new.scope c.in_statement.new.scope before (block_of (map stmt_of body))
    (block_of (map stmt_of (drop (c.loop-statement.statement-index + 1) body))) (stmt_of c.statement-item.result) c.in_ok-fault.field-0 c.in-Some.fault
    c.in-Some.is (λ now held. c.in_ok-fault.ensures modules now numbered held)
    (rw (← ap block_of left) (c.loop-statement.invariant modules before numbered w))

pub in_block-loop-statement-preserved : goal.in_block-loop-statement-preserved
in_block-loop-statement-preserved t c = λ modules before numbered w.
    let body = c.args.body.now in
    let left = views_left stmt_of body c.loop-statement.statement-index c.statement-item.result c.loop-statement-test.true c.statement-item.is in
    block_next modules c.args.scope.now c.loop-statement.scope c.in_statement.new.scope before (block_of (map stmt_of body))
    (block_of (map stmt_of (drop (c.loop-statement.statement-index + 1) body))) (stmt_of c.statement-item.result) c.in_ok-fault.field-0 c.in_default.is
    (λ now held. c.in_ok-fault.ensures modules now numbered held)
    (rw (← ap block_of left) (c.loop-statement.invariant modules before numbered w))

pub in_block-returns : goal.in_block-returns
in_block-returns t c = λ modules before numbered w.
    let body = c.args.body.now in
    let none = drop_all c.loop-statement.statement-index body (omega arith) in
    block_passed modules c.args.scope.now c.loop-statement.scope before (block_of (map stmt_of body))
    (rw (← ap (λ left. block_of (map stmt_of left)) none) (c.loop-statement.invariant modules before numbered w))

pub in_when-returns-in-Some : goal.in_when-returns-in-Some
in_when-returns-in-Some t c = λ modules before place numbered w.
    let x = c.args.when.now in
    let a = block_of (map stmt_of x.then_block.items) in
    let b = block_of (map stmt_of x.else_block.items) in
    passes_by modules c.args.scope.now c.args.scope.now before (Some c.in-Some.fault) (when_view x place) (when place (expr_of x.condition) a b)
    (when_is x place x.then_block.items x.else_block.items refl refl)
    (condition_told modules before place (expr_of x.condition) a b c.args.scope.now c.args.scope.now c.in_ok-fault.field-0 c.in-Some.fault c.in-Some.is
    (c.in_ok-fault.ensures before.visible (sees modules c.args.scope.now before w)))

pub in_when-returns-in-Some-2 : goal.in_when-returns-in-Some-2
in_when-returns-in-Some-2 t c = λ modules before place numbered w.
    let x = c.args.when.now in
    let a = block_of (map stmt_of c.deref.result.now) in
    let b = block_of (map stmt_of x.else_block.items) in
    passes_by modules c.args.scope.now c.in_block.new.scope before (Some c.in-Some-2.fault) (when_view x place) (when place (expr_of x.condition) a b)
    (when_is x place c.deref.result.now x.else_block.items c.deref.ensures.value refl)
    (first_told modules before place (expr_of x.condition) a b c.args.scope.now c.open.new.self c.in_block.new.scope c.in_block.new.scope
    c.in_ok-fault.field-0 c.in_ok-fault-2.field-0 c.in-Some-2.fault c.in_default.is
    (c.in_ok-fault.ensures before.visible (sees modules c.args.scope.now before w)) w c.in_ok-open.ensures c.in-Some-2.is
    (λ now held. c.in_ok-fault-2.ensures modules now numbered held))

pub in_when-returns-in-Some-3 : goal.in_when-returns-in-Some-3
in_when-returns-in-Some-3 t c = λ modules before place numbered w.
    let x = c.args.when.now in
    let a = block_of (map stmt_of c.deref.result.now) in
    let b = block_of (map stmt_of c.deref-2.result.now) in
    passes_by modules c.args.scope.now c.in_block-2.new.scope before (Some c.in-Some-3.fault) (when_view x place) (when place (expr_of x.condition) a b)
    (when_is x place c.deref.result.now c.deref-2.result.now c.deref.ensures.value c.deref-2.ensures.value)
    (second_told modules before place (expr_of x.condition) a b c.args.scope.now c.open.new.self c.in_block.new.scope c.close.new.self c.open-2.new.self
    c.in_block-2.new.scope c.in_ok-fault.field-0 c.in_ok-fault-2.field-0 c.in_ok-fault-3.field-0 c.in_default.is
    (c.in_ok-fault.ensures before.visible (sees modules c.args.scope.now before w)) w c.in_ok-open.ensures c.in_default-2.is
    (λ now held. c.in_ok-fault-2.ensures modules now numbered held) c.close.ensures c.in_ok-open-2.ensures
    (λ now held. c.in_ok-fault-3.ensures modules now numbered held) c.in_block-2.new.scope c.in-Some-3.fault c.in-Some-3.is)

pub in_when-returns : goal.in_when-returns
in_when-returns t c = λ modules before place numbered w.
    let x = c.args.when.now in
    let a = block_of (map stmt_of c.deref.result.now) in
    let b = block_of (map stmt_of c.deref-2.result.now) in
    passes_by modules c.args.scope.now c.close-2.new.self before None (when_view x place) (when place (expr_of x.condition) a b)
    (when_is x place c.deref.result.now c.deref-2.result.now c.deref.ensures.value c.deref-2.ensures.value)
    (both_passed modules before place (expr_of x.condition) a b c.args.scope.now c.open.new.self c.in_block.new.scope c.close.new.self c.open-2.new.self
    c.in_block-2.new.scope c.in_ok-fault.field-0 c.in_ok-fault-2.field-0 c.in_ok-fault-3.field-0 c.in_default.is
    (c.in_ok-fault.ensures before.visible (sees modules c.args.scope.now before w)) w c.in_ok-open.ensures c.in_default-2.is
    (λ now held. c.in_ok-fault-2.ensures modules now numbered held) c.close.ensures c.in_ok-open-2.ensures
    (λ now held. c.in_ok-fault-3.ensures modules now numbered held) c.close-2.new.self c.in_default-3.is c.close-2.ensures)
