use Rattle.std.proofs.Common.{◌+◌, drop, sym, ap, ◌∙◌, subst, refl}
use Rattle.fir_ast.specs.Statements.{Statement}
use Rattle.fir_ast.specs.working.Views.{stmt_of}
use Rattle.fir_names.proofs.StatementViews.{when_is}
use Rattle.fir_types.proofs.StatementParts.{when_at}
use Rattle.fir_leaf_text.specs.working.DeclaredNames.{IsSearched, names_in}
use Rattle.fir_leaf_text.proofs.SearchedNames.{IsPassed, found_behind, found_in_first, names_left, names_of_statements, one_passed, searched_on}
use Rattle.fir_leaf_text.proofs.declared_name.+names.Goals as goal

pub name_in_block-returns-in-Found : goal.name_in_block-returns-in-Found
name_in_block-returns-in-Found t c =
    let body = c.args.body.now in
    let all = names_of_statements body in
    let position = c.args.position in
    let i = c.loop-statement.statement-index in
    let one = names_in (stmt_of c.statement-item.result) in
    let rest = names_of_statements (drop (i + 1) body) in
    let left = names_left body i c.statement-item.result c.loop-statement-test.true c.statement-item.is in
    found_behind all one rest position c.loop-statement.left c.in-Found.name.now
    (subst (λ names. IsPassed all names position c.loop-statement.left) left c.loop-statement.invariant) c.in-Found.ensures

pub name_in_block-loop-statement-preserved : goal.name_in_block-loop-statement-preserved
name_in_block-loop-statement-preserved t c =
    let body = c.args.body.now in
    let all = names_of_statements body in
    let position = c.args.position in
    let i = c.loop-statement.statement-index in
    let one = names_in (stmt_of c.statement-item.result) in
    let rest = names_of_statements (drop (i + 1) body) in
    let left = names_left body i c.statement-item.result c.loop-statement-test.true c.statement-item.is in
    one_passed all one rest position c.loop-statement.left c.in-Left.behind
    (subst (λ names. IsPassed all names position c.loop-statement.left) left c.loop-statement.invariant) c.in-Left.ensures

pub name_in_statement-returns-in-When : goal.name_in_statement-returns-in-When
name_in_statement-returns-in-When t c =
    let i = c.in-When in
    let view = ap stmt_of i.is ∙ when_at i.field-0 i.when in
    subst (λ (x : Statement). IsSearched (names_in x) c.args.position c.name_in_when.result) (sym view) (c.name_in_when.ensures i.field-0)

pub name_in_when-returns-in-Found : goal.name_in_when-returns-in-Found
name_in_when-returns-in-Found t c = λ place.
    let w = c.args.when.now in
    let one = names_of_statements c.deref.result.now in
    let two = names_of_statements w.else_block.items in
    rw (when_is w place c.deref.result.now w.else_block.items c.deref.ensures.value refl)
    (found_in_first one two c.args.position c.in-Found.name.now c.in-Found.ensures)

pub name_in_when-returns-in-Left : goal.name_in_when-returns-in-Left
name_in_when-returns-in-Left t c = λ place.
    let w = c.args.when.now in
    let one = names_of_statements c.deref.result.now in
    let two = names_of_statements c.deref-in-Left.result.now in
    rw (when_is w place c.deref.result.now c.deref-in-Left.result.now c.deref.ensures.value c.deref-in-Left.ensures.value)
    (searched_on one two c.args.position c.in-Left.behind c.name_in_block-in-Left.result c.in-Left.ensures c.name_in_block-in-Left.ensures)
