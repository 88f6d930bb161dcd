use Rattle.std.proofs.Common.{◌≡◌, ◌++◌, ap, sym, ◌∙◌, length, arith}
use Rattle.std.proofs.lemmas.Result.{on_ok_weaker}
use Rattle.fir_ast.specs.Types.{vector}
use Rattle.fir_ast.specs.working.TypeViews.{type_of}
use Rattle.fir_meaning.specs.LeafPaths.{element, named, step_text}
use Rattle.fir_leaf_text.specs.working.TypePaths.{texts_behind, type_paths}
use Rattle.fir_leaf_text.specs.working.WordTexts.{other_texts}
use Rattle.fir_leaf_text.proofs.TypeTexts.{cut_back}
use Rattle.fir_leaf_text.proofs.WordTexts.{elements_put, fields_done, next_field, of_first, texts_of_fields, vector_view}
use Rattle.fir_leaf_text.proofs.word_texts.+words.Goals as goal

pub push_texts_of_fields-loop-field-preserved : goal.push_texts_of_fields-loop-field-preserved
push_texts_of_fields-loop-field-preserved t c =
    let path = c.args.path.now.items in
    let so_far = c.loop-field in
    let f = c.field-item.result in
    let mid = c.put_field.new.path.items in
    let is : mid ≡ path ++ step_text (named f.name) = rw so_far.invariant.stays at c.in_ok-put_field.ensures in
    let counted : c.len-before.result ≡ length path = omega (arith, c.len-before.ensures, c.args.path.now.ok.0) in
    record {
      stays =
          c.truncate.ensures.items
          ∙ cut_back path mid c.push_word_texts.new.path.items (named f.name) c.len-before.result is c.in_ok-push_word_texts.ensures.path counted;
      left =
          next_field path mid c.args.fields.now so_far.field-index f so_far.texts.items c.push_word_texts.new.texts.items
          (c.args.texts.now.items ++ texts_of_fields path c.args.fields.now) c.loop-field-test.true c.field-item.is is so_far.invariant.left
          c.in_ok-push_word_texts.ensures.texts;
    }

pub push_texts_of_fields-returns-clause-texts : goal.push_texts_of_fields-returns-clause-texts
push_texts_of_fields-returns-clause-texts t c =
    let path = c.args.path.now.items in
    fields_done path c.args.fields.now c.loop-field.field-index c.loop-field.texts.items (c.args.texts.now.items ++ texts_of_fields path c.args.fields.now)
    c.loop-field-test.false c.loop-field.invariant.left

pub push_texts_of_elements-returns-clause-path : goal.push_texts_of_elements-returns-clause-path
push_texts_of_elements-returns-clause-path t c =
    let path = c.args.path.now.items in
    let counted : c.len-before.result ≡ length path = omega (arith, c.len-before.ensures, c.args.path.now.ok.0) in
    let back =
    c.truncate.ensures.items
    ∙ cut_back path c.put_element.new.path.items c.push_word_texts.new.path.items (element 0) c.len-before.result c.in_ok-put_element.ensures
    c.in_ok-push_word_texts.ensures.path counted in
    on_ok_weaker c.push_other_elements.result (λ stays. stays ∙ back) c.push_other_elements.ensures.path

pub push_texts_of_elements-returns-clause-texts : goal.push_texts_of_elements-returns-clause-texts
push_texts_of_elements-returns-clause-texts t c =
    let one = type_of c.args.element.now in
    let n = c.args.length in
    let path = c.args.path.now.items in
    let mid = c.put_element.new.path.items in
    let cut = c.truncate.new.self.items in
    let old = c.args.texts.now.items in
    let first = c.push_word_texts.new.texts.items in
    let new = c.push_other_elements.new.texts.items in
    let is = c.in_ok-put_element.ensures in
    let put = c.in_ok-push_word_texts.ensures.texts in
    let counted : c.len-before.result ≡ length path = omega (arith, c.len-before.ensures, c.args.path.now.ok.0) in
    let long : c.len-cut.result ≡ length mid =
    omega (arith, c.len-cut.ensures, c.push_word_texts.new.path.ok.0, ap length c.in_ok-push_word_texts.ensures.path) in
    let begins : c.len-start.result ≡ length old = omega (arith, c.len-start.ensures, c.args.texts.now.ok.0) in
    let back : cut ≡ path =
    c.truncate.ensures.items
    ∙ cut_back path mid c.push_word_texts.new.path.items (element 0) c.len-before.result is c.in_ok-push_word_texts.ensures.path counted in
    let from = of_first one cut mid c.len-cut.result c.len-start.result old first (is ∙ ap (λ p. p ++ step_text (element 0)) (sym back)) long begins put in
    on_ok_weaker c.push_other_elements.result
    (λ pushed. elements_put one n path mid old first new c.if-length-eq0.false is put (pushed one from ∙ ap (λ p. first ++ other_texts one n p) back))
    c.push_other_elements.ensures.texts

pub push_word_texts-returns-in-Vector-clause-texts : goal.push_word_texts-returns-in-Vector-clause-texts
push_word_texts-returns-in-Vector-clause-texts t c =
    let path = c.args.path.now.items in
    let old = c.args.texts.now.items in
    let e = c.in-Vector.element in
    let n = c.in-Vector.length in
    on_ok_weaker c.push_texts_of_elements.result
    (λ pushed.
    pushed ∙ ap (λ ty. old ++ texts_behind path (type_paths (vector (type_of ty) n))) c.deref-in-Vector.ensures
    ∙ ap (λ ty. old ++ texts_behind path (type_paths ty)) (sym (ap type_of c.in-Vector.is ∙ vector_view e n)))
    c.push_texts_of_elements.ensures.texts
