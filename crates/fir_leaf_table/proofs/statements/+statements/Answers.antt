use Rattle.std.proofs.Common.{◌≡◌, ◌+◌, ◌++◌, map, drop, ap, ◌∙◌, arith}
use Rattle.std.specs.Prelude.{option_map}
use Rattle.std.proofs.lemmas.Grind.{common_steps}
use Rattle.std.proofs.lemmas.List.{drop_all}
use Rattle.std.proofs.lemmas.Result.{on_ok_weaker}
use Rattle.fir_ast.specs.working.Views.{block_of, expr_of, memory_part_of, named_of, reset_of, stmt_of}
use Rattle.fir_ast.specs.working.TypeViews.{type_of}
use Rattle.fir_ast.specs.Statements.{done, instance, memory, node, then, wire}
use Rattle.fir_ast.proofs.TreeViews.{node_view, register_view, tree_of_register}
use Rattle.fir_meaning.specs.Visibility.{opened}
use Rattle.fir_names.proofs.FirstMentions.{views_left}
use Rattle.fir_names.proofs.StatementViews.{when_is, wire_view}
use Rattle.fir_types.proofs.StatementParts.{instance_view}
use Rattle.fir_ground.proofs.PlaceWalks.{memory_view}
use Rattle.fir_leaf_table.proofs.BlockWalks.{AtBlock, block_begun, block_next, block_passed, later, next_begins, next_enters, passes_by}
use Rattle.fir_leaf_table.proofs.WhenWalks.{between, first_begins, first_enters, second_drivers, second_enters, when_passed}
use Rattle.fir_leaf_table.proofs.statements.+statements.Goals as goal

pub in_block-loop-statement-init : goal.in_block-loop-statement-init
in_block-loop-statement-init t c = λ circuit s before nodes rest enters begins.
    block_begun c.args.frame.now circuit s before nodes rest (block_of (map stmt_of c.args.body.now)) c.args.depth c.args.walk.now enters

pub in_block-loop-statement-preserved : goal.in_block-loop-statement-preserved
in_block-loop-statement-preserved t c = λ circuit s before nodes rest enters begins.
    let f = c.args.frame.now in
    let body = c.args.body.now in
    let i = c.loop-statement.statement-index in
    let block = block_of (map stmt_of body) in
    let x = stmt_of c.statement-item.result in
    let left = block_of (map stmt_of (drop (i + 1) body)) in
    let views = views_left stmt_of body i c.statement-item.result c.loop-statement-test.true c.statement-item.is in
    let old = c.args.walk.now in
    let walk = c.loop-statement.walk in
    let a : AtBlock circuit s before nodes rest block (then x left) c.args.depth old walk =
    rw (← ap block_of views) (c.loop-statement.invariant circuit s before nodes rest enters begins) in
    block_next f circuit s before nodes rest block c.args.depth old enters walk x left a c.in_statement.new.walk
    (c.in_ok-in_statement.ensures circuit s a.now nodes (later f circuit s before nodes rest block c.args.depth old enters walk x left a)
    (next_enters f circuit s before nodes rest block c.args.depth old enters walk x left a)
    (next_begins f circuit s before nodes rest block c.args.depth old enters walk x left a _ begins))

pub in_block-returns : goal.in_block-returns
in_block-returns t c = λ circuit s before nodes rest enters begins.
    let body = c.args.body.now in
    let block = block_of (map stmt_of body) in
    let walk = c.loop-statement.walk in
    let none = drop_all c.loop-statement.statement-index body (omega arith) in
    let a : AtBlock circuit s before nodes rest block done c.args.depth c.args.walk.now walk =
    rw (← ap (λ left. block_of (map stmt_of left)) none) (c.loop-statement.invariant circuit s before nodes rest enters begins) in
    block_passed c.args.frame.now circuit s before nodes rest block c.args.depth c.args.walk.now enters walk a

pub in_when-returns : goal.in_when-returns
in_when-returns t c = λ p circuit s before nodes rest.
    let f = c.args.frame.now in
    let x = c.args.when.now in
    let a = block_of (map stmt_of c.deref.result.now) in
    let b = block_of (map stmt_of c.deref-2.result.now) in
    let e = expr_of x.condition in
    let old = c.args.walk.now in
    let mid = c.in_block.new.walk in
    let new = c.in_block-2.new.walk in
    let depth = c.args.depth in
    rw (when_is x p c.deref.result.now c.deref-2.result.now c.deref.ensures.value c.deref-2.ensures.value)
    (λ enters begins.
    let inside = c.in_ok-inside.inside in
    let deeper : inside ≡ depth + 1 = grind (arith, common_steps) in
    let one = c.in_ok-in_block.ensures circuit s (opened before) nodes (second_drivers f circuit s before nodes rest p e a b ++ rest)
    (first_enters f circuit s before nodes rest p e a b depth inside old deeper enters) (first_begins f circuit s before nodes rest p e a b _ begins) in
    on_ok_weaker c.in_block-2.result (when_passed f circuit s before nodes rest p e a b depth inside old deeper enters mid one new)
    (c.in_block-2.ensures circuit s (between f circuit s before nodes rest p e a b) nodes rest
    (second_enters f circuit s before nodes rest p e a b depth inside old deeper enters mid one) begins))

pub in_statement-returns-in-Wire : goal.in_statement-returns-in-Wire
in_statement-returns-in-Wire t c =
    let i = c.in-Wire in
    passes_by c.args.frame.now c.args.depth c.args.walk.now c.in_wire.new.walk c.in_wire.result (stmt_of c.args.statement.now)
    (wire i.field-0 (named_of i.ident) i.field-2 (type_of i.field-3)) (ap stmt_of i.is ∙ wire_view i.field-0 i.ident i.field-2 i.field-3)
    (c.in_wire.ensures i.field-0 i.field-2 (type_of i.field-3))

pub in_statement-returns-in-Reg : goal.in_statement-returns-in-Reg
in_statement-returns-in-Reg t c =
    let i = c.in-Reg in
    let r = c.deref.result.now in
    passes_by c.args.frame.now c.args.depth c.args.walk.now c.in_register.new.walk c.in_register.result (stmt_of c.args.statement.now)
    (tree_of_register i.field-0 r) (ap stmt_of i.is ∙ register_view i.field-0 i.register r c.deref.ensures)
    (c.in_register.ensures i.field-0 r.type_place (type_of r.ty) (expr_of r.clock) (option_map reset_of r.reset))

pub in_statement-returns-in-Node : goal.in_statement-returns-in-Node
in_statement-returns-in-Node t c =
    let i = c.in-Node in
    passes_by c.args.frame.now c.args.depth c.args.walk.now c.in_node.new.walk c.in_node.result (stmt_of c.args.statement.now)
    (node i.field-0 (named_of i.ident) (expr_of i.field-2)) (ap stmt_of i.is ∙ node_view i.field-0 i.ident i.field-2)
    (c.in_node.ensures i.field-0 (expr_of i.field-2))

pub in_statement-returns-in-Inst : goal.in_statement-returns-in-Inst
in_statement-returns-in-Inst t c =
    let i = c.in-Inst in
    passes_by c.args.frame.now c.args.depth c.args.walk.now c.in_instance.new.walk c.in_instance.result (stmt_of c.args.statement.now)
    (instance i.field-0 (named_of i.ident) (named_of i.field-2)) (ap stmt_of i.is ∙ instance_view i.field-0 i.ident i.field-2)
    (c.in_instance.ensures i.field-0 (named_of i.field-2))

pub in_statement-returns-in-Mem : goal.in_statement-returns-in-Mem
in_statement-returns-in-Mem t c =
    let i = c.in-Mem in
    passes_by c.args.frame.now c.args.depth c.args.walk.now c.in_memory.new.walk c.in_memory.result (stmt_of c.args.statement.now)
    (memory i.field-0 (named_of i.memory.ident) (map memory_part_of i.memory.fields.items)) (ap stmt_of i.is ∙ memory_view i.field-0 i.memory)
    (c.in_memory.ensures i.field-0)
