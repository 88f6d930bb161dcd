use Rattle.std.proofs.Common.{◌≡◌, ◌++◌, drop}
use Rattle.fir_leaf_text.proofs.ArraysLeft.{texts_of_statements}
use Rattle.fir_leaf_text.proofs.all_arrays.+arrays.Given as goal

abbrev pub invariant-push_texts_of_block-loop-statement : goal.invariant-push_texts_of_block-loop-statement
invariant-push_texts_of_block-loop-statement l =
    l.texts.items ++ texts_of_statements (drop l.statement-index l.body) ≡ l.initial.texts.items ++ texts_of_statements l.body
