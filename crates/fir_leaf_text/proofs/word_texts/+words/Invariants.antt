use Rattle.std.proofs.Common.{◌≡◌, ◌++◌, drop}
use Rattle.fir_leaf_text.proofs.WordTexts.{texts_of_fields}
use Rattle.fir_leaf_text.proofs.word_texts.+words.Given as goal

abbrev pub invariant-push_texts_of_fields-loop-field : goal.invariant-push_texts_of_fields-loop-field
invariant-push_texts_of_fields-loop-field l = record {
  stays : l.path.items ≡ l.initial.path.items;
  left :
      l.texts.items ++ texts_of_fields l.initial.path.items (drop l.field-index l.fields)
      ≡ l.initial.texts.items ++ texts_of_fields l.initial.path.items l.fields;
}
