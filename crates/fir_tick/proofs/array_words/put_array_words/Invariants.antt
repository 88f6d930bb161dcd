use Rattle.std.proofs.Common.{◌≡◌, ◌++◌, take, map}
use Rattle.fir_tick.specs.working.StateWords.{array_word}
use Rattle.fir_tick.proofs.array_words.put_array_words.Given as goal

abbrev pub invariant-loop-number : goal.invariant-loop-number
invariant-loop-number l = l.words.items ≡ l.initial.words.items ++ map (array_word l.net l.table.arrays) (take l.number-index l.net.array_order)
