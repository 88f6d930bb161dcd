use Rattle.std.proofs.Common.{◌+◌, ◌++◌, map, drop, ap, subst, ◌∙◌, arith}
use Rattle.std.specs.Prelude.{option_map}
use Rattle.std.proofs.lemmas.List.{drop_all}
use Rattle.fir_ast.specs.Statements.{done, then, when}
use Rattle.fir_ast.specs.Statements as tree
use Rattle.fir_ast.specs.working.Views.{block_of, expr_of, named_of, reset_of, sink_of, stmt_of}
use Rattle.fir_ast.specs.working.TypeViews.{type_of}
use Rattle.fir_ast.proofs.TreeViews.{connect_view, node_view, register_view}
use Rattle.fir_meaning.specs.TypeGroup.{scope_at}
use Rattle.fir_meaning.specs.Visibility.{behind, opened}
use Rattle.fir_types.specs.working.ModuleNotes.{block_notes}
use Rattle.fir_names.specs.working.Parts.{when_view}
use Rattle.fir_names.proofs.FirstMentions.{views_left}
use Rattle.fir_names.proofs.StatementViews.{invalid_view, partial_connect_view, when_is}
use Rattle.fir_types.proofs.StatementParts.{instance_view}
use Rattle.fir_infer_resets.proofs.MeetsJoined.{passes_by}
use Rattle.fir_infer_resets.proofs.MeetWalks.{AtBlock, between, block_next, block_passed, condition_ahead, declaration_passed, first_notes, invalid_passed, next_ahead, second_notes, when_passed}
use Rattle.fir_infer_resets.proofs.meets.+statements.Goals as goal

pub in_block-loop-statement-preserved : goal.in_block-loop-statement-preserved
in_block-loop-statement-preserved t c =
    let body = c.args.body.now in
    let i = c.loop-statement.statement-index in
    let s = stmt_of c.statement-item.result in
    let rest_of = block_of (map stmt_of (drop (i + 1) body)) in
    let whole = block_of (map stmt_of body) in
    let old = c.args.walk.now in
    let walk = c.loop-statement.walk in
    let new = c.in_statement.new.walk in
    let left = ap block_of (views_left stmt_of body i c.statement-item.result c.loop-statement-test.true c.statement-item.is) in
    λ ts m before rest ahead same.
    let a = subst (λ b. AtBlock ts m before rest whole b old walk) left (c.loop-statement.invariant ts m before rest ahead same) in
    let later = block_notes m.modules (behind a.now s) rest_of ++ rest in
    block_next ts m before rest whole old walk new s rest_of a
    (c.in_ok-in_statement.ensures ts m a.now later (next_ahead ts m before rest whole old walk new s rest_of a) a.meets.declared)

pub in_block-returns : goal.in_block-returns
in_block-returns t c =
    let body = c.args.body.now in
    let whole = block_of (map stmt_of body) in
    let old = c.args.walk.now in
    let walk = c.loop-statement.walk in
    let none = drop_all c.loop-statement.statement-index body (omega arith) in
    λ ts m before rest ahead same.
    let a = subst (λ xs. AtBlock ts m before rest whole (block_of (map stmt_of xs)) old walk) none (c.loop-statement.invariant ts m before rest ahead same) in
    block_passed ts m before rest whole old walk a

pub in_statement-returns-in-Reg : goal.in_statement-returns-in-Reg
in_statement-returns-in-Reg t c =
    let i = c.in-Reg in
    let r = c.deref.result.now in
    let own = tree.register i.field-0 (named_of r.ident) r.type_place (type_of r.ty) (expr_of r.clock) (option_map reset_of r.reset) in
    passes_by c.args.walk.now c.in_register.new.walk c.in_register.result (stmt_of c.args.statement.now) own (ap stmt_of i.is ∙ register_view i.field-0 i.register r c.deref.ensures)
    (c.in_register.ensures i.field-0)

pub in_statement-returns-in-Node : goal.in_statement-returns-in-Node
in_statement-returns-in-Node t c =
    let i = c.in-Node in
    passes_by c.args.walk.now c.in_node.new.walk c.in_node.result (stmt_of c.args.statement.now) (tree.node i.field-0 (named_of i.ident) (expr_of i.value))
    (ap stmt_of i.is ∙ node_view i.field-0 i.ident i.value) (c.in_node.ensures i.field-0)

pub in_statement-returns-in-Inst : goal.in_statement-returns-in-Inst
in_statement-returns-in-Inst t c =
    let i = c.in-Inst in
    passes_by c.args.walk.now c.in_instance.new.walk c.in_instance.result (stmt_of c.args.statement.now) (tree.instance i.field-0 (named_of i.ident) (named_of i.field-2))
    (ap stmt_of i.is ∙ instance_view i.field-0 i.ident i.field-2) (c.in_instance.ensures i.field-0 (named_of i.field-2))

pub in_statement-returns-in-Connect : goal.in_statement-returns-in-Connect
in_statement-returns-in-Connect t c =
    let i = c.in-Connect in
    passes_by c.args.walk.now c.in_connect.new.walk c.in_connect.result (stmt_of c.args.statement.now) (tree.connect i.field-0 (sink_of i.sink) (expr_of i.source))
    (ap stmt_of i.is ∙ connect_view i.field-0 i.sink i.source) (c.in_connect.ensures i.field-0)

pub in_statement-returns-in-PartialConnect : goal.in_statement-returns-in-PartialConnect
in_statement-returns-in-PartialConnect t c =
    let i = c.in-PartialConnect in
    passes_by c.args.walk.now c.in_connect-in-PartialConnect.new.walk c.in_connect-in-PartialConnect.result (stmt_of c.args.statement.now)
    (tree.partial_connect i.field-0 (sink_of i.sink) (expr_of i.source)) (ap stmt_of i.is ∙ partial_connect_view i.field-0 i.sink i.source)
    (c.in_connect-in-PartialConnect.ensures i.field-0)

pub in_statement-returns-in-Invalid : goal.in_statement-returns-in-Invalid
in_statement-returns-in-Invalid t c =
    let i = c.in-Invalid in
    let s = sink_of i.sink in
    rw (ap stmt_of i.is ∙ invalid_view i.field-0 i.sink)
    (λ ts m before rest ahead same.
    invalid_passed i.field-0 s _ c.args.walk.now c.reference.new.self ts m before rest (c.reference.ensures ts (scope_at m.modules before) rest ahead) same)

pub in_statement-returns-in-Wire : goal.in_statement-returns-in-Wire
in_statement-returns-in-Wire t c = declaration_passed c.args.statement.now c.args.walk.now c.declare.new.self c.declare.result c.in-Wire.is c.declare.ensures

pub in_when-returns : goal.in_when-returns
in_when-returns t c =
    let x = c.args.when.now in
    let e = expr_of x.condition in
    let a = block_of (map stmt_of c.deref.result.now) in
    let b = block_of (map stmt_of c.deref-2.result.now) in
    let old = c.args.walk.now in
    λ place.
    passes_by old c.in_block-2.new.walk c.in_block-2.result (when_view x place) (when place e a b)
    (when_is x place c.deref.result.now c.deref-2.result.now c.deref.ensures.value c.deref-2.ensures.value)
    (λ ts m before rest ahead same.
    let first = first_notes ts m before rest place e a b old in
    let second = second_notes ts m before rest place e a b old in
    let condition = c.pass_expression.ensures ts (scope_at m.modules before) (first ++ (second ++ rest)) (condition_ahead ts m before rest place e a b old ahead) in
    let one = c.in_ok-in_block.ensures ts m (opened before) (second ++ rest) condition.passes.ahead (condition.passes.declared ∙ same) in
    let two = c.in_block-2.ensures ts m (between ts m before rest place e a b old) rest one.ahead one.declared in
    when_passed ts m before rest place e a b old c.pass_expression.new.self c.in_block.new.walk c.in_block-2.new.walk c.in_block-2.result condition.passes one two)
