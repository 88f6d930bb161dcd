use Rattle.std.proofs.Common.{◌≡◌, length, take, replicate}
use Rattle.trace_text.specs.Shapes.{state_widths}
use Rattle.trace_text.proofs.init_reader.zeros.Given as goal

abbrev pub invariant-loop-word : goal.invariant-loop-word
invariant-loop-word l = l.words.items ≡ replicate (length (state_widths (take l.word-index l.state))) 0
