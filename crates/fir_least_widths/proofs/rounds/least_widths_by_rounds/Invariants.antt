use Rattle.std.proofs.Common.{◌≡◌, length}
use Rattle.fir_least_widths.specs.working.Bounds.{IsBelowAll}
use Rattle.fir_meaning.specs.working.AssignedWidths.{assigned}
use Rattle.fir_least_widths.specs.working.Rounds.{room}
use Rattle.fir_least_widths.proofs.rounds.least_widths_by_rounds.Given as goal

abbrev pub invariant-loop : goal.invariant-loop
invariant-loop l = record { long : length l.widths.items ≡ l.unknowns; below : IsBelowAll l.bounds (assigned l.widths.items) }

abbrev pub decreases-loop : goal.decreases-loop
decreases-loop l = room l.widths.items
