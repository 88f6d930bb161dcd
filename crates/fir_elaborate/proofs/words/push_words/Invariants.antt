use Rattle.std.proofs.Common.{◌≡◌, ◌+◌, ◌-◌, ◌≤◌, ◌++◌}
use Rattle.fir_elaborate.specs.working.Walks.{word_numbers}
use Rattle.fir_elaborate.proofs.words.push_words.Given as goal

abbrev pub invariant-loop-leaf : goal.invariant-loop-leaf
invariant-loop-leaf l = record {
  low : l.from ≤ l.leaf;
  high : l.leaf ≤ l.from + (l.upto - l.from);
  words : l.state.items ≡ l.fn.state.items ++ word_numbers l.at l.leaves l.from l.leaf;
}
