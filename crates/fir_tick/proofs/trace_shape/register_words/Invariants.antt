use Rattle.std.proofs.Common.{◌≡◌, take, map}
use Rattle.fir_tick.specs.working.StateWords.{state_word}
use Rattle.fir_tick.proofs.trace_shape.register_words.Given as goal

abbrev pub invariant-loop-word : goal.invariant-loop-word
invariant-loop-word l = l.words.items ≡ map (state_word l.net l.table.leaves) (take l.word-index l.net.state)
