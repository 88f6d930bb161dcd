use Rattle.std.proofs.Common.{◌≡◌, ◌≤◌, drop, length}
use Rattle.fir_ast.specs.Types.{DataType}
use Rattle.fir_leaf_text.specs.working.WordTexts.{AreOfFirst}
use Rattle.fir_leaf_text.proofs.WordTexts.{AreCopied}
use Rattle.fir_leaf_text.proofs.word_texts.push_other_elements.Given as goal

abbrev pub invariant-loop-index : goal.invariant-loop-index
invariant-loop-index l = record {
  stays : l.path.items ≡ l.initial.path.items;
  within : l.end ≤ length l.texts.items;
  copied :
      (t : DataType) → AreOfFirst t l.initial.path.items l.cut (drop l.start l.initial.texts.items)
      → AreCopied t l.length l.initial.path.items l.initial.texts.items l.index l.texts.items;
}
