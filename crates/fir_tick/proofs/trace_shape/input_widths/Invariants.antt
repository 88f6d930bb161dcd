use Rattle.std.proofs.Common.{◌≡◌, ◌++◌, drop}
use Rattle.fir_tick.specs.working.StateWords.{input_widths}
use Rattle.fir_tick.proofs.trace_shape.input_widths.Given as goal

abbrev pub invariant-loop-leaf : goal.invariant-loop-leaf
invariant-loop-leaf l = l.widths.items ++ input_widths (drop l.leaf-index l.leaves) ≡ input_widths l.leaves
