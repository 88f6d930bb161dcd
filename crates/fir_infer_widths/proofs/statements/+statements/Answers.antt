use Rattle.std.proofs.Common.{◌≡◌, ◌+◌, [], ◌++◌, map, drop, refl, ap, ◌∙◌, arith, ⊎_elim}
use Rattle.std.proofs.lemmas.List.{drop_all}
use Rattle.std.proofs.lemmas.Result.{on_ok_weaker}
use Rattle.fir_ast.specs.declared.place.Place.{Place}
use Rattle.fir_ast.specs.declared.statements.Ident.{Ident}
use Rattle.fir_ast.specs.declared.statements.Stmt.TheVariants as code
use Rattle.fir_ast.specs.declared.types.Ty.{Ty}
use Rattle.fir_meaning.specs.Components as component
use Rattle.fir_ast.specs.working.Views.{block_of, expr_of, memory_part_of, named_of, sink_of, stmt_of}
use Rattle.fir_ast.specs.working.TypeViews.{type_of}
use Rattle.fir_ast.specs.Statements.{connect, done, memory, node, partial_connect, then}
use Rattle.fir_ast.proofs.TreeViews.{connect_view, node_view, register_view, tree_of_register}
use Rattle.fir_ast.specs.Types.{uint}
use Rattle.fir_meaning.specs.Visibility.{declarations, opened}
use Rattle.fir_meaning.specs.SizedScopes.{sized_type}
use Rattle.fir_meaning.specs.WidthRules.{rules_in_block}
use Rattle.fir_meaning.specs.TypeGroup.{scope_at}
use Rattle.fir_meaning.specs.SizedDeclarations.{sized_at}
use Rattle.fir_names.specs.working.Parts.{when_view}
use Rattle.fir_names.proofs.FirstMentions.{views_left}
use Rattle.fir_names.proofs.StatementViews.{wire_view, partial_connect_view, invalid_view, when_is}
use Rattle.fir_types.proofs.StatementParts.{instance_view, when_at}
use Rattle.fir_types.specs.working.Notes.{reference_notes}
use Rattle.fir_infer_widths.specs.working.Spots.{spots_of_sink}
use Rattle.fir_infer_widths.proofs.DeclarationWalks.{instance_has}
use Rattle.fir_infer_widths.proofs.PlaceWalks.{enters_place, still_behind}
use Rattle.fir_infer_widths.proofs.StatementWalks.{AtBlock, block_begun, block_next, block_passed, connect_passed, later, memory_view, next_begins, next_enters, passes_by}
use Rattle.fir_infer_widths.proofs.WhenWalks.{between, condition_enters, first_begins, first_enters, first_notes, second_enters, second_notes, when_passed}
use Rattle.fir_infer_widths.proofs.statements.+statements.Goals as goal

pub in_block-loop-statement-init : goal.in_block-loop-statement-init
in_block-loop-statement-init t c = λ k m before meant rules rest enters begins legal.
    block_begun k c.args.ground.now m before meant rules rest (block_of (map stmt_of c.args.body.now)) c.args.walk.now enters legal

pub in_block-loop-statement-preserved : goal.in_block-loop-statement-preserved
in_block-loop-statement-preserved t c = λ k m before meant rules rest enters begins legal.
    let g = c.args.ground.now in
    let body = c.args.body.now in
    let i = c.loop-statement.statement-index in
    let whole = block_of (map stmt_of body) in
    let s = stmt_of c.statement-item.result in
    let left = block_of (map stmt_of (drop (i + 1) body)) in
    let views = views_left stmt_of body i c.statement-item.result c.loop-statement-test.true c.statement-item.is in
    let old = c.args.walk.now in
    let walk = c.loop-statement.walk in
    let a : AtBlock k g m before meant rules rest whole (then s left) old walk =
    rw (← ap block_of views) (c.loop-statement.invariant k m before meant rules rest enters begins legal) in
    block_next k g m before meant rules rest whole old enters walk s left a c.in_statement.new.walk
    (c.in_ok-in_statement.ensures k m a.now (meant ++ a.comes.comes.more) (rules ++ a.asked) (later k g m before meant rules rest whole old enters walk s left a)
    (next_enters k g m before meant rules rest whole old enters walk s left a) (next_begins k g m before meant rules rest whole old enters walk s left a begins) a.legal.0)

pub in_block-returns : goal.in_block-returns
in_block-returns t c = λ k m before meant rules rest enters begins legal.
    let g = c.args.ground.now in
    let whole = block_of (map stmt_of c.args.body.now) in
    let walk = c.loop-statement.walk in
    let none = drop_all c.loop-statement.statement-index c.args.body.now (omega arith) in
    let a : AtBlock k g m before meant rules rest whole done c.args.walk.now walk =
    rw (← ap (λ left. block_of (map stmt_of left)) none) (c.loop-statement.invariant k m before meant rules rest enters begins legal) in
    block_passed k g m before meant rules rest whole c.args.walk.now enters walk a

pub in_statement-returns-in-Reg : goal.in_statement-returns-in-Reg
in_statement-returns-in-Reg t c =
    let i = c.in-Reg in
    let r = c.deref.result.now in
    passes_by c.args.ground.now c.args.walk.now c.in_register.new.walk c.in_register.result (stmt_of c.args.statement.now) (tree_of_register i.field-0 r)
    (ap stmt_of i.is ∙ register_view i.field-0 i.register r c.deref.ensures) (c.in_register.ensures i.field-0)

pub in_statement-returns-in-Node : goal.in_statement-returns-in-Node
in_statement-returns-in-Node t c =
    let i = c.in-Node in
    passes_by c.args.ground.now c.args.walk.now c.in_node.new.walk c.in_node.result (stmt_of c.args.statement.now) (node i.field-0 (named_of i.ident) (expr_of i.value))
    (ap stmt_of i.is ∙ node_view i.field-0 i.ident i.value) (c.in_node.ensures i.field-0)

pub in_statement-returns-in-Mem : goal.in_statement-returns-in-Mem
in_statement-returns-in-Mem t c =
    let i = c.in-Mem in
    passes_by c.args.ground.now c.args.walk.now c.in_memory.new.walk c.in_memory.result (stmt_of c.args.statement.now)
    (memory i.field-0 (named_of i.memory.ident) (map memory_part_of i.memory.fields.items)) (ap stmt_of i.is ∙ memory_view i.field-0 i.memory) (c.in_memory.ensures i.field-0)

pub in_statement-returns-in-When : goal.in_statement-returns-in-When
in_statement-returns-in-When t c =
    let i = c.in-When in
    passes_by c.args.ground.now c.args.walk.now c.in_when.new.walk c.in_when.result (stmt_of c.args.statement.now) (when_view i.when i.field-0)
    (ap stmt_of i.is ∙ when_at i.field-0 i.when) (λ k m before meant rules rest. c.in_when.ensures k m before i.field-0 meant rules rest)

pub in_statement-returns-in-Connect : goal.in_statement-returns-in-Connect
in_statement-returns-in-Connect t c =
    let i = c.in-Connect in
    let g = c.args.ground.now in
    let old = c.args.walk.now in
    let new = c.in_connect.new.walk in
    let r = c.in_connect.result in
    let sink = sink_of i.sink in
    let e = expr_of i.source in
    ⊎_elim
    (λ (w : (p : Place) × (c.args.statement.now ≡ code.Connect p i.sink i.source)).
    passes_by g old new r (stmt_of c.args.statement.now) (connect w.0 sink e) (ap stmt_of w.1 ∙ connect_view w.0 i.sink i.source)
    (λ k m before meant rules rest enters begins legal.
    connect_passed k g m before sink e meant rules rest old new r enters begins
    (λ place. c.in_connect.ensures k (scope_at m.modules before) (sized_at m before) legal.0 legal.1 meant rules rest place legal.2 legal.3)))
    (λ (w : (p : Place) × (c.args.statement.now ≡ code.PartialConnect p i.sink i.source)).
    passes_by g old new r (stmt_of c.args.statement.now) (partial_connect w.0 sink e) (ap stmt_of w.1 ∙ partial_connect_view w.0 i.sink i.source)
    (λ k m before meant rules rest enters begins legal.
    connect_passed k g m before sink e meant rules rest old new r enters begins
    (λ place. c.in_connect.ensures k (scope_at m.modules before) (sized_at m before) legal.0 legal.1 meant rules rest place legal.2 legal.3)))
    i.is

pub in_statement-returns-in_ok-in_reference-in-Invalid : goal.in_statement-returns-in_ok-in_reference-in-Invalid
in_statement-returns-in_ok-in_reference-in-Invalid t c =
    let i = c.in-Invalid in
    let g = c.args.ground.now in
    let old = c.args.walk.now in
    let sink = sink_of i.sink in
    λ k m before meant rules rest.
    rw (ap stmt_of i.is ∙ invalid_view i.field-0 i.sink)
    (λ enters begins legal.
    let notes = reference_notes (scope_at m.modules before) sink ++ rest in
    let to = c.in_ok-in_reference-in-Invalid.ensures k (scope_at m.modules before) (sized_at m before) legal.0 meant rules rest (enters_place k g m before before meant rules notes old enters begins)
    legal.1 in
    still_behind k g m before meant rules [] notes rest (spots_of_sink (sized_at m before) sink) old c.in_reference.new.walk enters (record { comes = to.comes; stays = to.stays }))

pub in_statement-returns-in_ok-declared-in-Wire : goal.in_statement-returns-in_ok-declared-in-Wire
in_statement-returns-in_ok-declared-in-Wire t c =
    let i = c.in-Wire in
    ⊎_elim
    (λ (w : (p : Place) × (begins : Place) × (ty : Ty) × (c.args.statement.now ≡ code.Wire p i.ident begins ty)).
    λ k m before meant rules rest.
    rw (ap stmt_of w.3 ∙ wire_view w.0 i.ident w.1 w.2)
    (λ enters begins legal.
    (c.in_ok-declared-in-Wire.ensures k m before (component.wire (type_of w.2)) (type_of w.2) meant rules rest (record { enters = enters; begins = begins; is = refl })
    (record { leaves = refl; written = refl })).passed))
    (λ (w : (p : Place) × (name : Ident) × (c.args.statement.now ≡ code.Inst p i.ident name)).
    λ k m before meant rules rest.
    rw (ap stmt_of w.2 ∙ instance_view w.0 i.ident w.1)
    (λ enters begins legal.
    let has = instance_has k c.args.ground.now m before (named_of i.ident) w.1.name meant rules rest c.args.walk.now enters begins in
    (c.in_ok-declared-in-Wire.ensures k m before (component.instance w.1.name) has.0 meant rules rest (record { enters = enters; begins = begins; is = has.1 })
    (record { leaves = refl; written = refl })).passed))
    i.is

pub in_when-returns : goal.in_when-returns
in_when-returns t c = λ k m before place meant rules rest.
    let g = c.args.ground.now in
    let x = c.args.when.now in
    let a = block_of (map stmt_of c.deref.result.now) in
    let b = block_of (map stmt_of c.deref-2.result.now) in
    let e = expr_of x.condition in
    let old = c.args.walk.now in
    let second = c.in_condition.new.walk in
    let third = c.in_block.new.walk in
    rw (when_is x place c.deref.result.now c.deref-2.result.now c.deref.ensures.value c.deref-2.ensures.value)
    (λ enters begins legal.
    let typed = scope_at m.modules before in
    let sized = sized_at m before in
    let s = sized_type sized e in
    let to = c.in_ok-in_condition.ensures k typed sized (uint legal.0) meant rules (first_notes k g m before place e a b meant rules rest ++ (second_notes k g m before place e a b meant rules rest ++ rest))
    (condition_enters k g m before place e a b meant rules rest old enters begins) legal.1 in
    let side = c.in_ok-in_condition.field-0 in
    let more = meant ++ to.comes.more in
    let one = c.in_ok-in_block.ensures k m (opened before) more (rules ++ []) (second_notes k g m before place e a b meant rules rest ++ rest)
    (first_enters k g m before place e a b meant rules rest old enters s side second to) (first_begins k g m before place e a b meant rules rest (declarations m.inside) begins) legal.2 in
    on_ok_weaker c.in_block-2.result (when_passed k g m before place e a b meant rules rest old enters s side second to third one c.in_block-2.new.walk)
    (c.in_block-2.ensures k m (between k g m before place e a b meant rules rest) (more ++ one.comes.more) ((rules ++ []) ++ rules_in_block m (opened before) a) rest
    (second_enters k g m before place e a b meant rules rest old enters s side second to third one) begins legal.3))
