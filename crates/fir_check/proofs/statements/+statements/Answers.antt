use Rattle.std.proofs.Common.{◌+◌, map, drop, refl, ap, ◌∙◌, arith}
use Rattle.std.proofs.lemmas.Result.{err_from_is_err_and}
use Rattle.std.proofs.lemmas.List.{drop_all}
use Rattle.fir_ast.specs.working.Views.{block_of, expr_of, named_of, sink_of, stmt_of}
use Rattle.fir_type_table.specs.working.Tables.{types_of}
use Rattle.fir_ast.specs.Statements.{done, then, when, connect, partial_connect, invalid}
use Rattle.fir_ast.proofs.TreeViews.{connect_view, register_view}
use Rattle.fir_meaning.specs.TypeGroup.{scope_at, type_faults_in}
use Rattle.fir_names.specs.working.Parts.{when_view}
use Rattle.fir_names.proofs.FirstMentions.{views_left}
use Rattle.fir_names.proofs.StatementViews.{wire_view, partial_connect_view, invalid_view, when_is}
use Rattle.fir_types.proofs.KnownScopes.{knows_scope}
use Rattle.fir_meaning.specs.Visibility.{behind_block, opened, reopened}
use Rattle.fir_types.proofs.StatementParts.{instance_view, when_at}
use Rattle.fir_check.proofs.StatementWalks.{NotedBlock, noted_block_begun, noted_block_done, noted_block_next, notes_by, when_noted, passed_goes, passes_by, judged_passes, block_fails, next_begins, block_passed, condition_fails, first_fails, when_passes, opens, reopens}
use Rattle.fir_types.proofs.BlockBegins.{begins_by, second_begins, first_begins, condition_begins}
use Rattle.fir_check.proofs.statements.+statements.Goals as goal

pub in_block-returns-in_err-in_statement-clause-passes : goal.in_block-returns-in_err-in_statement-clause-passes
in_block-returns-in_err-in_statement-clause-passes t c =
    let p = err_from_is_err_and c.from_residual.result c.from_residual.ensures.1 in
    let body = c.args.body.now in
    let i = c.loop-statement.statement-index in
    let s = stmt_of c.statement-item.result in
    let rest = block_of (map stmt_of (drop (i + 1) body)) in
    let left = views_left stmt_of body i c.statement-item.result c.loop-statement-test.true c.statement-item.is in
    λ modules before whole of begins walks.
    let so_far : NotedBlock modules c.args.bundles.now c.args.scope.now c.loop-statement.scope c.args.notes.now.items c.loop-statement.notes.items before (block_of (map stmt_of body)) (then s rest)
    = rw (← ap block_of left) (c.loop-statement.invariant modules before whole of begins walks) in
    let a = so_far.at in
    let next = next_begins modules c.args.bundles.now c.args.scope.now c.loop-statement.scope c.in_statement.new.scope before (block_of (map stmt_of body)) rest s whole begins a in
    rw (p.1, p.2)
    (block_fails modules c.args.bundles.now c.args.scope.now c.loop-statement.scope c.in_statement.new.scope before (block_of (map stmt_of body)) rest s whole begins a _
    (c.in_err-in_statement.ensures.passes modules a.now whole of next a.walks))

pub in_block-loop-statement-preserved : goal.in_block-loop-statement-preserved
in_block-loop-statement-preserved t c =
    let body = c.args.body.now in
    let i = c.loop-statement.statement-index in
    let s = stmt_of c.statement-item.result in
    let rest = block_of (map stmt_of (drop (i + 1) body)) in
    let left = views_left stmt_of body i c.statement-item.result c.loop-statement-test.true c.statement-item.is in
    λ modules before whole of begins walks.
    let so_far : NotedBlock modules c.args.bundles.now c.args.scope.now c.loop-statement.scope c.args.notes.now.items c.loop-statement.notes.items before (block_of (map stmt_of body)) (then s rest)
    = rw (← ap block_of left) (c.loop-statement.invariant modules before whole of begins walks) in
    let a = so_far.at in
    let next = next_begins modules c.args.bundles.now c.args.scope.now c.loop-statement.scope c.in_statement.new.scope before (block_of (map stmt_of body)) rest s whole begins a in
    noted_block_next modules c.args.bundles.now c.args.scope.now c.loop-statement.scope c.in_statement.new.scope c.args.notes.now.items c.loop-statement.notes.items
    c.in_statement.new.notes.items before (block_of (map stmt_of body)) rest s whole begins so_far (c.in_ok-in_statement.ensures.passes modules a.now whole of next a.walks)
    (c.in_ok-in_statement.ensures.notes modules a.now whole of next a.walks)

pub in_block-loop-statement-init : goal.in_block-loop-statement-init
in_block-loop-statement-init t c =
    let body = block_of (map stmt_of c.args.body.now) in
    λ modules before whole of begins walks. noted_block_begun modules c.args.bundles.now c.args.scope.now c.args.notes.now.items before body walks

pub in_block-returns-clause-passes : goal.in_block-returns-clause-passes
in_block-returns-clause-passes t c =
    let body = c.args.body.now in
    let none = drop_all c.loop-statement.statement-index body (omega arith) in
    λ modules before whole of begins walks.
    let so_far : NotedBlock modules c.args.bundles.now c.args.scope.now c.loop-statement.scope c.args.notes.now.items c.loop-statement.notes.items before (block_of (map stmt_of body)) done
    = rw (← ap (λ left. block_of (map stmt_of left)) none) (c.loop-statement.invariant modules before whole of begins walks) in
    block_passed modules c.args.bundles.now c.args.scope.now c.loop-statement.scope before (block_of (map stmt_of body)) so_far.at

pub in_block-returns-clause-notes : goal.in_block-returns-clause-notes
in_block-returns-clause-notes t c =
    let body = block_of (map stmt_of c.args.body.now) in
    let none = drop_all c.loop-statement.statement-index c.args.body.now (omega arith) in
    λ modules before whole of begins walks.
    let so_far : NotedBlock modules c.args.bundles.now c.args.scope.now c.loop-statement.scope c.args.notes.now.items c.loop-statement.notes.items before body done
    = rw (← ap (λ left. block_of (map stmt_of left)) none) (c.loop-statement.invariant modules before whole of begins walks) in
    noted_block_done modules c.args.bundles.now c.args.scope.now c.loop-statement.scope c.args.notes.now.items c.loop-statement.notes.items before body so_far

pub in_statement-returns-in-Wire-clause-passes : goal.in_statement-returns-in-Wire-clause-passes
in_statement-returns-in-Wire-clause-passes t c =
    let i = c.in-Wire in
    let view = ap stmt_of i.is ∙ wire_view i.field-0 i.field-1 i.field-2 i.ty in
    λ modules before whole of begins walks.
    passes_by modules c.args.bundles.now c.args.scope.now c.in_wire.new.scope before (stmt_of c.args.statement.now) _ c.in_wire.result view
    (c.in_wire.ensures modules c.args.bundles.now before (named_of i.field-1) walks)

pub in_statement-returns-in-Reg-clause-passes : goal.in_statement-returns-in-Reg-clause-passes
in_statement-returns-in-Reg-clause-passes t c =
    let i = c.in-Reg in
    let r = c.deref.result.now in
    let view = ap stmt_of i.is ∙ register_view i.field-0 i.register r c.deref.ensures in
    λ modules before whole of begins walks.
    passes_by modules c.args.bundles.now c.args.scope.now c.in_register.new.scope before (stmt_of c.args.statement.now) _ c.in_register.result view
    (c.in_register.ensures.passes modules c.args.bundles.now before whole of (begins_by before whole (stmt_of c.args.statement.now) _ view begins) walks)

pub in_statement-returns-in-Inst-clause-passes : goal.in_statement-returns-in-Inst-clause-passes
in_statement-returns-in-Inst-clause-passes t c =
    let i = c.in-Inst in
    let view = ap stmt_of i.is ∙ instance_view i.field-0 i.field-1 i.field-2 in
    λ modules before whole of begins walks.
    passes_by modules c.args.bundles.now c.args.scope.now c.in_instance.new.scope before (stmt_of c.args.statement.now) _ c.in_instance.result view
    (c.in_instance.ensures modules before whole (named_of i.field-1) i.field-2.name of (begins_by before whole (stmt_of c.args.statement.now) _ view begins) walks)

pub in_statement-returns-in-When-clause-passes : goal.in_statement-returns-in-When-clause-passes
in_statement-returns-in-When-clause-passes t c =
    let i = c.in-When in
    let view = ap stmt_of i.is ∙ when_at i.field-0 i.when in
    λ modules before whole of begins walks.
    passes_by modules c.args.bundles.now c.args.scope.now c.in_when.new.scope before (stmt_of c.args.statement.now) (when_view i.when i.field-0) c.in_when.result view
    (c.in_when.ensures.passes modules before whole i.field-0 of (begins_by before whole (stmt_of c.args.statement.now) (when_view i.when i.field-0) view begins) walks)

pub in_statement-returns-in-Connect-clause-passes : goal.in_statement-returns-in-Connect-clause-passes
in_statement-returns-in-Connect-clause-passes t c =
    let i = c.in-Connect in
    let s = connect i.place (sink_of i.sink) (expr_of i.source) in
    let view = ap stmt_of i.is ∙ connect_view i.place i.sink i.source in
    λ modules before whole of begins walks.
    let knows = knows_scope modules c.args.names.now whole c.args.bundles.now c.args.scope.now before of (begins_by before whole (stmt_of c.args.statement.now) s view begins) walks in
    passes_by modules c.args.bundles.now c.args.scope.now c.args.scope.now before (stmt_of c.args.statement.now) s c.in_connect.result view
    (judged_passes modules c.args.bundles.now c.args.scope.now before (type_faults_in modules before s) c.in_connect.result
    (c.in_connect.ensures.found (scope_at modules before) knows) walks)

pub in_statement-returns-in-PartialConnect-clause-passes : goal.in_statement-returns-in-PartialConnect-clause-passes
in_statement-returns-in-PartialConnect-clause-passes t c =
    let i = c.in-PartialConnect in
    let s = partial_connect i.place (sink_of i.sink) (expr_of i.source) in
    let view = ap stmt_of i.is ∙ partial_connect_view i.place i.sink i.source in
    λ modules before whole of begins walks.
    let knows = knows_scope modules c.args.names.now whole c.args.bundles.now c.args.scope.now before of (begins_by before whole (stmt_of c.args.statement.now) s view begins) walks in
    passes_by modules c.args.bundles.now c.args.scope.now c.args.scope.now before (stmt_of c.args.statement.now) s c.in_partial_connect.result view
    (judged_passes modules c.args.bundles.now c.args.scope.now before (type_faults_in modules before s) c.in_partial_connect.result
    (c.in_partial_connect.ensures.found (scope_at modules before) knows) walks)

pub in_statement-returns-in-Invalid-clause-passes : goal.in_statement-returns-in-Invalid-clause-passes
in_statement-returns-in-Invalid-clause-passes t c =
    let i = c.in-Invalid in
    let s = invalid i.field-0 (sink_of i.sink) in
    let view = ap stmt_of i.is ∙ invalid_view i.field-0 i.sink in
    λ modules before whole of begins walks.
    let knows = knows_scope modules c.args.names.now whole c.args.bundles.now c.args.scope.now before of (begins_by before whole (stmt_of c.args.statement.now) s view begins) walks in
    passes_by modules c.args.bundles.now c.args.scope.now c.args.scope.now before (stmt_of c.args.statement.now) s c.in_invalid.result view
    (judged_passes modules c.args.bundles.now c.args.scope.now before (type_faults_in modules before s) c.in_invalid.result
    (c.in_invalid.ensures.found (scope_at modules before) knows) walks)

pub in_when-returns-in_err-in_unsigned-clause-passes : goal.in_when-returns-in_err-in_unsigned-clause-passes
in_when-returns-in_err-in_unsigned-clause-passes t c =
    let p = err_from_is_err_and c.from_residual.result c.from_residual.ensures.1 in
    let x = c.args.when.now in
    let a = block_of (map stmt_of x.then_block.items) in
    let b = block_of (map stmt_of x.else_block.items) in
    λ modules before whole place of begins walks.
    let e = expr_of x.condition in
    let view = when_is x place x.then_block.items x.else_block.items refl refl in
    let all = begins_by before whole (when_view x place) (when place e a b) view begins in
    let knows = knows_scope modules c.args.names.now whole c.args.bundles.now c.args.scope.now before of
    (condition_begins before place e a b whole all) walks in
    rw (p.1, p.2, view) (condition_fails modules c.args.bundles.now before place e a b _ (c.in_err-in_unsigned.ensures.found (scope_at modules before) knows))

pub in_when-returns-in_err-in_block-clause-passes : goal.in_when-returns-in_err-in_block-clause-passes
in_when-returns-in_err-in_block-clause-passes t c =
    let p = err_from_is_err_and c.from_residual-in_err-in_block.result c.from_residual-in_err-in_block.ensures.1 in
    let x = c.args.when.now in
    let a = block_of (map stmt_of c.deref.result.now) in
    let b = block_of (map stmt_of x.else_block.items) in
    λ modules before whole place of begins walks.
    let e = expr_of x.condition in
    let view = when_is x place c.deref.result.now x.else_block.items c.deref.ensures.value refl in
    let all = begins_by before whole (when_view x place) (when place e a b) view begins in
    let knows = knows_scope modules c.args.names.now whole c.args.bundles.now c.args.scope.now before of
    (condition_begins before place e a b whole all) walks in
    let none = (c.in_ok-in_unsigned.ensures.found (scope_at modules before) knows).none in
    rw (p.1, p.2, view)
    (first_fails modules c.args.bundles.now before place e a b _ none
    (c.in_err-in_block.ensures.passes modules (opened before) whole of (first_begins before place e a b whole all)
    (opens modules c.args.bundles.now before place e a b c.args.scope.now walks)))

pub in_when-returns-clause-passes : goal.in_when-returns-clause-passes
in_when-returns-clause-passes t c =
    let x = c.args.when.now in
    let a = block_of (map stmt_of c.deref.result.now) in
    let b = block_of (map stmt_of c.deref-2.result.now) in
    λ modules before whole place of begins walks.
    let e = expr_of x.condition in
    let view = when_is x place c.deref.result.now c.deref-2.result.now c.deref.ensures.value c.deref-2.ensures.value in
    let all = begins_by before whole (when_view x place) (when place e a b) view begins in
    let knows = knows_scope modules c.args.names.now whole c.args.bundles.now c.args.scope.now before of
    (condition_begins before place e a b whole all) walks in
    let none = (c.in_ok-in_unsigned.ensures.found (scope_at modules before) knows).none in
    let first = c.in_ok-in_block.ensures.passes modules (opened before) whole of (first_begins before place e a b whole all)
    (opens modules c.args.bundles.now before place e a b c.args.scope.now walks) in
    passes_by modules c.args.bundles.now c.args.scope.now c.in_block-2.new.scope before (when_view x place) (when place e a b) c.in_block-2.result view
    (when_passes modules c.args.bundles.now before place e a b c.args.scope.now c.in_block.new.scope c.in_block-2.new.scope c.in_block-2.result none first.0 first.2
    (c.in_block-2.ensures.passes modules (reopened before (behind_block (opened before) a)) whole of
    (second_begins before place e a b whole all)
    (reopens modules c.args.bundles.now before place e a b c.in_block.new.scope first.1)))

pub in_statement-returns-in-Connect-clause-notes : goal.in_statement-returns-in-Connect-clause-notes
in_statement-returns-in-Connect-clause-notes t c =
    let i = c.in-Connect in
    let s = connect i.place (sink_of i.sink) (expr_of i.source) in
    let view = ap stmt_of i.is ∙ connect_view i.place i.sink i.source in
    λ modules before whole of begins walks.
    let knows = knows_scope modules c.args.names.now whole c.args.bundles.now c.args.scope.now before of (begins_by before whole (stmt_of c.args.statement.now) s view begins) walks in
    notes_by (types_of c.args.scope.now.table) modules _ _ before (stmt_of c.args.statement.now) s c.in_connect.result view
    (c.in_connect.ensures.notes (scope_at modules before) knows)

pub in_statement-returns-in-PartialConnect-clause-notes : goal.in_statement-returns-in-PartialConnect-clause-notes
in_statement-returns-in-PartialConnect-clause-notes t c =
    let i = c.in-PartialConnect in
    let s = partial_connect i.place (sink_of i.sink) (expr_of i.source) in
    let view = ap stmt_of i.is ∙ partial_connect_view i.place i.sink i.source in
    λ modules before whole of begins walks.
    let knows = knows_scope modules c.args.names.now whole c.args.bundles.now c.args.scope.now before of (begins_by before whole (stmt_of c.args.statement.now) s view begins) walks in
    notes_by (types_of c.args.scope.now.table) modules _ _ before (stmt_of c.args.statement.now) s c.in_partial_connect.result view
    (c.in_partial_connect.ensures.notes (scope_at modules before) knows)

pub in_statement-returns-in-Invalid-clause-notes : goal.in_statement-returns-in-Invalid-clause-notes
in_statement-returns-in-Invalid-clause-notes t c =
    let i = c.in-Invalid in
    let s = invalid i.field-0 (sink_of i.sink) in
    let view = ap stmt_of i.is ∙ invalid_view i.field-0 i.sink in
    λ modules before whole of begins walks.
    let knows = knows_scope modules c.args.names.now whole c.args.bundles.now c.args.scope.now before of (begins_by before whole (stmt_of c.args.statement.now) s view begins) walks in
    notes_by (types_of c.args.scope.now.table) modules _ _ before (stmt_of c.args.statement.now) s c.in_invalid.result view
    (c.in_invalid.ensures.notes (scope_at modules before) knows)

pub in_when-returns-clause-notes : goal.in_when-returns-clause-notes
in_when-returns-clause-notes t c =
    let x = c.args.when.now in
    let a = block_of (map stmt_of c.deref.result.now) in
    let b = block_of (map stmt_of c.deref-2.result.now) in
    λ modules before whole place of begins walks.
    let bundles = c.args.bundles.now in
    let e = expr_of x.condition in
    let view = when_is x place c.deref.result.now c.deref-2.result.now c.deref.ensures.value c.deref-2.ensures.value in
    let all = begins_by before whole (when_view x place) (when place e a b) view begins in
    let knows = knows_scope modules c.args.names.now whole bundles c.args.scope.now before of (condition_begins before place e a b whole all) walks in
    let begun = first_begins before place e a b whole all in
    let inside = opens modules bundles before place e a b c.args.scope.now walks in
    let first = c.in_ok-in_block.ensures.passes modules (opened before) whole of begun inside in
    let between = reopened before (behind_block (opened before) a) in
    let later = second_begins before place e a b whole all in
    let again = reopens modules bundles before place e a b c.in_block.new.scope first.1 in
    notes_by (types_of c.in_block-2.new.scope.table) modules _ _ before (when_view x place) (when place e a b) c.in_block-2.result view
    (when_noted modules bundles before place e a b c.args.scope.now c.in_block.new.scope c.in_block-2.new.scope _ _ _ _ c.in_block-2.result
    (c.in_ok-in_unsigned.ensures.notes (scope_at modules before) knows) first.2 (c.in_ok-in_block.ensures.notes modules (opened before) whole of begun inside)
    (passed_goes modules bundles before place e a b c.in_block.new.scope c.in_block-2.new.scope c.in_block-2.result (c.in_block-2.ensures.passes modules between whole of later again))
    (c.in_block-2.ensures.notes modules between whole of later again))
