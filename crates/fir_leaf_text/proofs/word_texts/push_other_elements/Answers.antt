use Rattle.std.proofs.Common.{◌≡◌, ◌≤◌, ◌++◌, ap, ◌∙◌, drop, length, map, refl, arith}
use Rattle.std.specs.Prelude.{slice_range}
use Rattle.std.proofs.lemmas.List.{length-append}
use Rattle.fir_meaning.specs.LeafPaths.{element, step_text}
use Rattle.fir_leaf_text.proofs.TypeTexts.{cut_back}
use Rattle.fir_leaf_text.proofs.WordTexts.{all_copied, none_copied, nothing_copied, one_copied}
use Rattle.fir_leaf_text.proofs.word_texts.push_other_elements.Goals as goal

pub returns-then-start-end-clause-texts : goal.returns-then-start-end-clause-texts
returns-then-start-end-clause-texts c = λ t first.
    let old = c.args.texts.now.items in
    let past : length old ≤ c.args.start = omega (arith, c.len-end.ensures, c.args.texts.now.ok.0, c.if-start-end.true) in
    nothing_copied t c.args.length c.args.path.now.items old c.args.cut c.args.start first past

pub loop-index-init : goal.loop-index-init
loop-index-init c = record {
  stays = refl;
  within = omega (arith, c.len-end.ensures, c.args.texts.now.ok.0);
  copied = λ t first. none_copied t c.args.length c.args.path.now.items c.args.texts.now.items;
}

pub loop-index-preserved : goal.loop-index-preserved
loop-index-preserved c =
    let path = c.args.path.now.items in
    let old = c.args.texts.now.items in
    let so_far = c.loop-index in
    let i = so_far.index in
    let mid = c.put_element.new.path.items in
    let new = c.push_copies.new.texts.items in
    let is : mid ≡ path ++ step_text (element i) = rw so_far.invariant.stays at c.in_ok-put_element.ensures in
    let counted : c.len-before.result ≡ length path = omega (arith, c.len-before.ensures, c.args.path.now.ok.0) in
    let ends : c.len-end.result ≡ length old = omega (arith, c.len-end.ensures, c.args.texts.now.ok.0) in
    let copies = c.in_ok-push_copies.ensures.texts in
    record {
      stays =
          c.truncate.ensures.items
          ∙ cut_back path mid c.push_copies.new.path.items (element i) c.len-before.result is c.in_ok-push_copies.ensures.path counted;
      within =
          omega (
            arith,
            so_far.invariant.within,
            ap length copies,
            length-append so_far.texts.items (map (λ text. mid ++ drop c.args.cut text) (slice_range so_far.texts.items c.args.start c.len-end.result)),
          );
      copied = λ t first.
          one_copied t c.args.length path old c.args.cut c.args.start first c.len-end.result i mid so_far.texts.items new c.if-start-end.false ends
          c.loop-index-test.true is (so_far.invariant.copied t first) copies;
    }

pub returns-clause-texts : goal.returns-clause-texts
returns-clause-texts c = λ t first.
    all_copied t c.args.length c.args.path.now.items c.args.texts.now.items c.loop-index.index c.loop-index.texts.items c.loop-index-test.false
    (c.loop-index.invariant.copied t first)
