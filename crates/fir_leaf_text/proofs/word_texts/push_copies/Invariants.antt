use Rattle.std.proofs.Common.{◌≡◌, ◌++◌}
use Rattle.fir_leaf_text.proofs.WordTexts.{copies_to}
use Rattle.fir_leaf_text.proofs.word_texts.push_copies.Given as goal

abbrev pub invariant-loop-number : goal.invariant-loop-number
invariant-loop-number l = record {
  stays : l.path.items ≡ l.initial.path.items;
  so_far : l.texts.items ≡ l.initial.texts.items ++ copies_to l.initial.path.items l.cut l.initial.texts.items l.start l.number;
}
