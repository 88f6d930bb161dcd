use Rattle.std.proofs.Common.{◌≡◌, ◌++◌, drop}
use Rattle.fir_tick.specs.working.Passes.{values_of}
use Rattle.fir_tick.proofs.start.words_at.Given as goal

abbrev pub invariant-loop-j : goal.invariant-loop-j
invariant-loop-j l = l.state.items ++ values_of (drop l.j l.widths) (drop l.j l.words) ≡ values_of l.widths l.words
