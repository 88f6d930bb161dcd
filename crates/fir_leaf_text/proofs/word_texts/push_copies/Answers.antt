use Rattle.std.proofs.Common.{◌≡◌, [], ◌∷◌, ◌++◌, ap, ◌∙◌, drop, length, refl, take, arith}
use Rattle.std.proofs.Math.Seq.{take-append_seam}
use Rattle.fir_leaf_text.proofs.WordTexts.{copies_to, copy_within, next_copy, no_copies}
use Rattle.fir_leaf_text.proofs.word_texts.push_copies.Goals as goal

pub loop-number-init : goal.loop-number-init
loop-number-init c = record { stays = refl; so_far = no_copies c.args.path.now.items c.args.cut c.args.start c.args.texts.now.items }

pub index-requires : goal.index-requires
index-requires c =
    omega (
      arith,
      copy_within c.args.path.now.items c.args.cut c.args.start c.args.end c.loop-number.number c.args.texts.now.items c.loop-number.texts.items
          c.requires.within c.loop-number-test.true c.loop-number.invariant.so_far,
      c.loop-number.texts.ok.0,
    )

pub loop-number-preserved : goal.loop-number-preserved
loop-number-preserved c =
    let path = c.args.path.now.items in
    let so_far = c.loop-number in
    let text = c.index.result.now in
    let mid = c.extend_from_slice.new.self.items in
    let is : mid ≡ path ++ drop c.args.cut text =
    c.in_ok-extend_from_slice.ensures.items ∙ ap (λ rest. so_far.path.items ++ rest) c.rest_of.ensures
    ∙ ap (λ p. p ++ drop c.args.cut text) so_far.invariant.stays in
    let counted : c.len-before.result ≡ length path = omega (arith, c.len-before.ensures, c.args.path.now.ok.0) in
    record {
      stays =
          c.truncate.ensures.items ∙ ap (λ n. take n mid) counted ∙ ap (take (length path)) is ∙ take-append_seam path (drop c.args.cut text);
      so_far =
          next_copy path mid c.args.cut c.args.start so_far.number c.args.texts.now.items so_far.texts.items c.push_text.new.texts.items text
          so_far.auto.number (omega (arith, c.requires.within, c.loop-number-test.true)) so_far.invariant.so_far c.index.ensures is
          (c.in_ok-push_text.ensures ∙ ap (λ p. so_far.texts.items ++ p ∷ []) c.deref.ensures.value);
    }

pub returns-clause-texts : goal.returns-clause-texts
returns-clause-texts c =
    let old = c.args.texts.now.items in
    let last : c.loop-number.number ≡ c.args.end = omega (arith, c.loop-number-test.false, c.loop-number.auto.number-end c.requires.ordered) in
    c.loop-number.invariant.so_far ∙ ap (λ i. old ++ copies_to c.args.path.now.items c.args.cut old c.args.start i) last
