use Rattle.std.proofs.Common.{length, drop}
use Rattle.trace_text.specs.Lines.{words_of}
use Rattle.trace_text.specs.working.TickWords.{ValuesAreRead}
use Rattle.trace_text.proofs.tick_words.ReadValues.take_all.Given as goal

abbrev pub invariant-loop-word : goal.invariant-loop-word
invariant-loop-word l = record {
  read : ValuesAreRead l.widths (words_of l.text) (drop (length l.yielded) (words_of l.text)) l.self l.inputs;
}
