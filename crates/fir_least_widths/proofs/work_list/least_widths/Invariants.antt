use Rattle.std.proofs.Common.{◌+◌}
use Rattle.fir_least_widths.specs.working.Waiting.{waiting_count}
use Rattle.fir_least_widths.specs.working.Solving.{Solving, rises_left}
use Rattle.fir_least_widths.proofs.work_list.least_widths.Given as goal

abbrev pub invariant-loop-place : goal.invariant-loop-place
invariant-loop-place l = Solving l.bounds l.unknowns l.widths.items l.waiting

abbrev pub decreases-loop-place : goal.decreases-loop-place
decreases-loop-place l = rises_left l.widths.items l.readers.items + waiting_count l.waiting
