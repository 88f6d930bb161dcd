use Rattle.std.proofs.Common.{◌+◌, ◌++◌, drop, sym, ap, ◌∙◌, append_assoc, append-nil}
use Rattle.std.proofs.lemmas.List.{drop_all}
use Rattle.std.proofs.lemmas.Result.{on_ok_weaker}
use Rattle.fir_ast.specs.working.Views.{stmt_of}
use Rattle.fir_names.proofs.StatementViews.{when_is}
use Rattle.fir_types.proofs.StatementParts.{when_at}
use Rattle.fir_leaf_text.specs.working.TextsOfArrays.{array_texts_in}
use Rattle.fir_leaf_text.proofs.ArraysLeft.{texts_left, texts_of_statements}
use Rattle.fir_leaf_text.proofs.all_arrays.+arrays.Goals as goal

pub push_texts_of_block-loop-statement-preserved : goal.push_texts_of_block-loop-statement-preserved
push_texts_of_block-loop-statement-preserved t c =
    let body = c.args.body.now in
    let old = c.loop-statement.texts.items in
    let i = c.loop-statement.statement-index in
    let one = array_texts_in (stmt_of c.statement-item.result) in
    let rest = texts_of_statements (drop (i + 1) body) in
    let left = texts_left body i c.statement-item.result c.loop-statement-test.true c.statement-item.is in
    ap (λ texts. texts ++ rest) c.in_ok-push_texts_of_statement.ensures ∙ append_assoc old one rest ∙ ap (λ texts. old ++ texts) (sym left)
    ∙ c.loop-statement.invariant

pub push_texts_of_block-returns : goal.push_texts_of_block-returns
push_texts_of_block-returns t c =
    let texts = c.loop-statement.texts.items in
    let none = drop_all c.loop-statement.statement-index c.args.body.now c.loop-statement-test.false in
    sym (ap (λ ss. texts ++ texts_of_statements ss) none ∙ append-nil texts) ∙ c.loop-statement.invariant

pub push_texts_of_statement-returns-in-When : goal.push_texts_of_statement-returns-in-When
push_texts_of_statement-returns-in-When t c =
    let i = c.in-When in
    let old = c.args.texts.now.items in
    let view = ap stmt_of i.is ∙ when_at i.field-0 i.when in
    on_ok_weaker c.push_texts_of_when.result (λ pushed. pushed i.field-0 ∙ ap (λ s. old ++ array_texts_in s) (sym view)) c.push_texts_of_when.ensures

pub push_texts_of_when-returns : goal.push_texts_of_when-returns
push_texts_of_when-returns t c =
    let w = c.args.when.now in
    let old = c.args.texts.now.items in
    let one = texts_of_statements c.deref.result.now in
    let two = texts_of_statements c.deref-2.result.now in
    on_ok_weaker c.push_texts_of_block-2.result
    (λ pushed place.
    pushed ∙ ap (λ texts. texts ++ two) c.in_ok-push_texts_of_block.ensures ∙ append_assoc old one two
    ∙ sym (ap (λ s. old ++ array_texts_in s) (when_is w place c.deref.result.now c.deref-2.result.now c.deref.ensures.value c.deref-2.ensures.value)))
    c.push_texts_of_block-2.ensures
