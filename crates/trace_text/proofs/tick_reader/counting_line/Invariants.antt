use Rattle.std.proofs.Common.{length, ◌-◌}
use Rattle.trace_text.specs.working.Walks.{IsPast}
use Rattle.trace_text.proofs.tick_reader.counting_line.Given as goal

abbrev pub invariant-loop-place : goal.invariant-loop-place
invariant-loop-place l = IsPast l.bytes l.from l.place

abbrev pub decreases-loop-place : goal.decreases-loop-place
decreases-loop-place l = length l.bytes - l.place
