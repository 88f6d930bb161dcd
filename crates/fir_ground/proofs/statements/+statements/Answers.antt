use Rattle.std.proofs.Common.{◌≡◌, ◌+◌, ◌++◌, map, drop, refl, ap, ◌∙◌, arith, ⊎_elim}
use Rattle.std.proofs.lemmas.List.{drop_all}
use Rattle.std.proofs.lemmas.Result.{on_ok_weaker}
use Rattle.fir_ast.specs.declared.place.Place.{Place}
use Rattle.fir_ast.specs.declared.statements.Ident.{Ident}
use Rattle.fir_ast.specs.declared.statements.Memory.{Memory}
use Rattle.fir_ast.specs.declared.statements.Stmt.TheVariants as code
use Rattle.fir_ast.specs.declared.types.Ty.{Ty}
use Rattle.fir_ast.specs.working.Views.{block_of, expr_of, memory_part_of, named_of, sink_of, stmt_of}
use Rattle.fir_ast.specs.working.TypeViews.{type_of}
use Rattle.fir_ast.specs.Statements.{connect, done, instance, invalid, memory, node, partial_connect, then, wire}
use Rattle.fir_ast.specs.Types.{uint}
use Rattle.fir_ast.proofs.TreeViews.{connect_view, node_view, register_view, tree_of_register}
use Rattle.fir_meaning.specs.Components as component
use Rattle.fir_meaning.specs.TypeGroup.{scope_at}
use Rattle.fir_meaning.specs.Visibility.{opened}
use Rattle.fir_ground.specs.declared.driver.Driver.TheVariants.{Others}
use Rattle.fir_ground.specs.working.DeclarationDrivers.{others}
use Rattle.fir_names.specs.working.Parts.{when_view}
use Rattle.fir_names.proofs.FirstMentions.{views_left}
use Rattle.fir_names.proofs.StatementViews.{invalid_view, partial_connect_view, when_is, wire_view}
use Rattle.fir_types.proofs.StatementParts.{instance_view, when_at}
use Rattle.fir_types.specs.working.ModuleNotes.{connect_notes}
use Rattle.fir_types.specs.working.Notes.{reference_notes}
use Rattle.fir_leaf_pairs.proofs.Emitting.{emitted_none}
use Rattle.fir_ground.proofs.PlaceWalks.{AtBlock, block_begun, block_next, block_passed, comes_none, declared_behind, enters_place, later, memory_view, next_begins, next_cost, next_enters, passes_by, skip_view, still_behind}
use Rattle.fir_ground.proofs.WhenWalks.{between, condition_enters, first_begins, first_cost, first_enters, first_notes, second_cost, second_enters, second_notes, when_passed}
use Rattle.fir_ground.proofs.statements.+statements.Goals as goal

pub in_block-loop-statement-init : goal.in_block-loop-statement-init
in_block-loop-statement-init t c = λ modules costs whole before rest enters begins legal cost.
    block_begun c.args.frame.now modules costs whole before rest (block_of (map stmt_of c.args.body.now)) c.args.declared.now c.args.walk.now
    c.args.out.now.items enters
    legal cost

pub in_block-loop-statement-preserved : goal.in_block-loop-statement-preserved
in_block-loop-statement-preserved t c = λ modules costs whole before rest enters begins legal cost.
    let f = c.args.frame.now in
    let body = c.args.body.now in
    let i = c.loop-statement.statement-index in
    let block = block_of (map stmt_of body) in
    let s = stmt_of c.statement-item.result in
    let left = block_of (map stmt_of (drop (i + 1) body)) in
    let views = views_left stmt_of body i c.statement-item.result c.loop-statement-test.true c.statement-item.is in
    let was = c.args.declared.now in
    let is = c.loop-statement.declared in
    let old = c.args.walk.now in
    let walk = c.loop-statement.walk in
    let front = c.args.out.now.items in
    let mid = c.loop-statement.out.items in
    let a : AtBlock f modules costs before rest block (then s left) old walk is front mid =
    rw (← ap block_of views) (c.loop-statement.invariant modules costs whole before rest enters begins legal cost) in
    block_next f modules costs whole before rest block was old front enters walk is mid s left a c.in_statement.new.walk c.in_statement.new.declared
    c.in_statement.new.out.items
    (c.in_ok-in_statement.ensures modules costs whole a.now (later f modules costs whole before rest block was old front enters walk is mid s left a)
    (next_enters f modules costs whole before rest block was old front enters walk is mid s left a)
    (next_begins f modules costs whole before rest block was old front enters walk is mid s left a begins) a.legal.0
    (next_cost f modules costs whole before rest block was old front enters walk is mid s left a))

pub in_block-returns : goal.in_block-returns
in_block-returns t c = λ modules costs whole before rest enters begins legal cost.
    let f = c.args.frame.now in
    let body = c.args.body.now in
    let block = block_of (map stmt_of body) in
    let walk = c.loop-statement.walk in
    let is = c.loop-statement.declared in
    let front = c.args.out.now.items in
    let out = c.loop-statement.out.items in
    let none = drop_all c.loop-statement.statement-index body (omega arith) in
    let a : AtBlock f modules costs before rest block done c.args.walk.now walk is front out =
    rw (← ap (λ left. block_of (map stmt_of left)) none) (c.loop-statement.invariant modules costs whole before rest enters begins legal cost) in
    block_passed f modules costs whole before rest block c.args.declared.now c.args.walk.now front enters walk is out a

pub in_statement-returns-in-Reg : goal.in_statement-returns-in-Reg
in_statement-returns-in-Reg t c =
    let i = c.in-Reg in
    let r = c.deref.result.now in
    let out = c.args.out.now.items in
    passes_by c.args.frame.now c.args.walk.now c.in_register.new.walk c.args.declared.now c.in_register.new.declared out out c.in_register.result
    (stmt_of c.args.statement.now) (tree_of_register i.field-0 r) (ap stmt_of i.is ∙ register_view i.field-0 i.register r c.deref.ensures)
    (c.in_register.ensures i.field-0 out)

pub in_statement-returns-in-Node : goal.in_statement-returns-in-Node
in_statement-returns-in-Node t c =
    let i = c.in-Node in
    let out = c.args.out.now.items in
    passes_by c.args.frame.now c.args.walk.now c.in_node.new.walk c.args.declared.now c.in_node.new.declared out out c.in_node.result
    (stmt_of c.args.statement.now) (node i.field-0 (named_of i.field-1) (expr_of i.value)) (ap stmt_of i.is ∙ node_view i.field-0 i.field-1 i.value)
    (c.in_node.ensures i.field-0 (named_of i.field-1) out)

pub in_statement-returns-in-Inst : goal.in_statement-returns-in-Inst
in_statement-returns-in-Inst t c =
    let i = c.in-Inst in
    passes_by c.args.frame.now c.args.walk.now c.in_instance.new.walk c.args.declared.now c.in_instance.new.declared c.args.out.now.items c.in_instance.new.out.items
    c.in_instance.result
    (stmt_of c.args.statement.now) (instance i.field-0 (named_of i.field-1) (named_of i.field-2)) (ap stmt_of i.is
    ∙ instance_view i.field-0 i.field-1 i.field-2)
    (c.in_instance.ensures i.field-0 (named_of i.field-1) (named_of i.field-2))

pub in_statement-returns-in-Connect : goal.in_statement-returns-in-Connect
in_statement-returns-in-Connect t c =
    let i = c.in-Connect in
    let f = c.args.frame.now in
    let old = c.args.walk.now in
    let new = c.in_connect.new.walk in
    let is = c.args.declared.now in
    let front = c.args.out.now.items in
    let out = c.in_connect.new.out.items in
    let sink = sink_of i.sink in
    let e = expr_of i.source in
    passes_by f old new is is front out c.in_connect.result (stmt_of c.args.statement.now) (connect i.place sink e) (ap stmt_of i.is
    ∙ connect_view i.place i.sink i.source)
    (λ modules costs whole before rest enters begins legal cost.
    let notes = connect_notes (scope_at modules before) sink e ++ rest in
    on_ok_weaker c.in_connect.result (still_behind f modules whole before notes rest _ is old new front out enters)
    (c.in_connect.ensures (scope_at modules before) rest (enters_place f modules whole before before notes is old enters begins) legal cost))

pub in_statement-returns-in-PartialConnect : goal.in_statement-returns-in-PartialConnect
in_statement-returns-in-PartialConnect t c =
    let i = c.in-PartialConnect in
    let f = c.args.frame.now in
    let old = c.args.walk.now in
    let new = c.in_partial_connect.new.walk in
    let is = c.args.declared.now in
    let front = c.args.out.now.items in
    let out = c.in_partial_connect.new.out.items in
    let sink = sink_of i.sink in
    let e = expr_of i.source in
    passes_by f old new is is front out c.in_partial_connect.result (stmt_of c.args.statement.now) (partial_connect i.place sink e)
    (ap stmt_of i.is ∙ partial_connect_view i.place i.sink i.source)
    (λ modules costs whole before rest enters begins legal cost.
    let notes = connect_notes (scope_at modules before) sink e ++ rest in
    on_ok_weaker c.in_partial_connect.result (still_behind f modules whole before notes rest _ is old new front out enters)
    (c.in_partial_connect.ensures (scope_at modules before) rest (enters_place f modules whole before before notes is old enters begins) legal cost))

pub in_statement-returns-in-Invalid : goal.in_statement-returns-in-Invalid
in_statement-returns-in-Invalid t c =
    let i = c.in-Invalid in
    let f = c.args.frame.now in
    let old = c.args.walk.now in
    let new = c.in_invalid.new.walk in
    let is = c.args.declared.now in
    let front = c.args.out.now.items in
    let out = c.in_invalid.new.out.items in
    let sink = sink_of i.sink in
    passes_by f old new is is front out c.in_invalid.result (stmt_of c.args.statement.now) (invalid i.place sink) (ap stmt_of i.is
    ∙ invalid_view i.place i.sink)
    (λ modules costs whole before rest enters begins legal cost.
    let notes = reference_notes (scope_at modules before) sink ++ rest in
    on_ok_weaker c.in_invalid.result (still_behind f modules whole before notes rest _ is old new front out enters)
    (c.in_invalid.ensures (scope_at modules before) legal.0 rest (enters_place f modules whole before before notes is old enters begins) legal.1))

pub in_when-returns : goal.in_when-returns
in_when-returns t c = λ modules costs whole before rest.
    let f = c.args.frame.now in
    let x = c.args.when.now in
    let p = c.args.place in
    let a = block_of (map stmt_of c.deref.result.now) in
    let b = block_of (map stmt_of c.deref-2.result.now) in
    let e = expr_of x.condition in
    let was = c.args.declared.now in
    let old = c.args.walk.now in
    rw (when_is x p c.deref.result.now c.deref-2.result.now c.deref.ensures.value c.deref-2.ensures.value)
    (λ enters begins legal cost.
    let second = c.in_first.new.walk in
    let third = c.in_block.new.walk in
    let last = c.in_block-2.new.walk in
    let m = c.in_block.new.declared in
    let ns = first_notes f modules costs whole before p e a b rest in
    let ms = second_notes f modules costs whole before p e a b rest in
    let id = c.in_ok-condition.condition in
    let k = c.in_ok-condition.ensures (scope_at modules before) (uint legal.0) (ns ++ (ms ++ rest))
    (condition_enters f modules costs whole before p e a b rest was old enters begins) legal.1 in
    let one = c.in_ok-in_block.ensures modules costs whole (opened before) (ms ++ rest)
    (first_enters f modules costs whole before p e a b rest was old enters second id k) (first_begins f modules costs whole before p e a b rest begins) legal.2
    (first_cost f modules costs whole before p e a b rest cost) in
    let none = c.new-then_block.result.items in
    let made = c.in_block.new.out.items in
    let two = c.in_ok-in_block-2.ensures modules costs whole (between f modules costs whole before p e a b rest) rest
    (second_enters f modules costs whole before p e a b rest was old enters second id k third m none made one) begins legal.3
    (second_cost f modules costs whole before p e a b rest cost) in
    when_passed f modules costs whole before p e a b rest was old enters second id k third m none made one last c.in_block-2.new.declared
    c.new-else_block.result.items c.in_block-2.new.out.items c.args.out.now.items c.push.new.self.items
    (record { place = p; condition = id; then_block = c.in_block.new.out; else_block = c.in_block-2.new.out }) c.new-then_block.ensures.items
    c.new-else_block.ensures.items two
    refl refl refl refl c.in_ok-push.ensures.items)

pub in_statement-returns-in-Wire : goal.in_statement-returns-in-Wire
in_statement-returns-in-Wire t c =
    let f = c.args.frame.now in
    let walk = c.args.walk.now in
    let was = c.args.declared.now in
    let new = c.declare.new.walk in
    let is = c.declare.new.declared in
    let out = c.args.out.now.items in
    let s = c.args.statement.now in
    ⊎_elim
    (λ (w : (p : Place) × (ident : Ident) × (begins : Place) × (ty : Ty) × (s ≡ code.Wire p ident begins ty)).
    passes_by f walk new was is out out c.declare.result (stmt_of s) (wire w.0 (named_of w.1) w.2 (type_of w.3)) (ap stmt_of w.4 ∙ wire_view w.0 w.1 w.2 w.3)
    (λ modules costs whole before rest enters begins legal cost.
    on_ok_weaker c.declare.result
    (declared_behind f modules whole before (named_of w.1) (component.wire (type_of w.3)) rest rest was is walk walk new out Others others enters
    (comes_none f rest walk enters.ahead) (λ later g. refl))
    c.declare.ensures))
    (λ (w : (p : Place) × (memory : Memory) × (s ≡ code.Mem p memory)).
    passes_by f walk new was is out out c.declare.result (stmt_of s) (memory w.0 (named_of w.1.ident) (map memory_part_of w.1.fields.items))
    (ap stmt_of w.2 ∙ memory_view w.0 w.1)
    (λ modules costs whole before rest enters begins legal cost.
    on_ok_weaker c.declare.result
    (declared_behind f modules whole before (named_of w.1.ident) (component.memory (map memory_part_of w.1.fields.items)) rest rest was is
    walk walk new out Others others enters
    (comes_none f rest walk enters.ahead) (λ later g. refl))
    c.declare.ensures))
    c.in-Wire.is

pub in_statement-returns-in-When : goal.in_statement-returns-in-When
in_statement-returns-in-When t c =
    passes_by c.args.frame.now c.args.walk.now c.in_when.new.walk c.args.declared.now c.in_when.new.declared c.args.out.now.items c.in_when.new.out.items
    c.in_when.result (stmt_of c.args.statement.now) (when_view c.in-When.when c.in-When.place) (ap stmt_of c.in-When.is ∙ when_at c.in-When.place c.in-When.when)
    c.in_when.ensures

pub in_statement-returns-in-Skip : goal.in_statement-returns-in-Skip
in_statement-returns-in-Skip t c =
    let f = c.args.frame.now in
    let walk = c.args.walk.now in
    let was = c.args.declared.now in
    let out = c.args.out.now.items in
    let p = c.in-Skip.field-0 in
    rw (ap stmt_of c.in-Skip.is ∙ skip_view p)
    (λ modules costs whole before rest enters begins legal cost.
    still_behind f modules whole before rest rest _ was walk walk out out enters
    (record { comes = comes_none f rest walk enters.ahead; emitted = emitted_none walk.nodes.items out }))
