use Rattle.std.proofs.Common.{length, ◌-◌}
use Rattle.trace_text.specs.working.Walks.{InitsTo}
use Rattle.trace_text.proofs.init_reader.read_init.Given as goal

abbrev pub invariant-loop-line : goal.invariant-loop-line
invariant-loop-line l = InitsTo l.bytes l.shape l.place l.words.items

abbrev pub decreases-loop-line : goal.decreases-loop-line
decreases-loop-line l = length l.bytes - l.place
