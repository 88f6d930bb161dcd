use Rattle.std.proofs.Common.{◌≡◌, ◌++◌, map, take}
use Rattle.trace_text.specs.working.ClosedWords.{closed}
use Rattle.trace_text.specs.OutputLines.{value_text}
use Rattle.trace_text.proofs.output_line.put_values.Given as goal

abbrev pub invariant-loop-value : goal.invariant-loop-value
invariant-loop-value l = l.line.items ≡ l.initial.line.items ++ closed (map value_text (take l.value-index l.values))
