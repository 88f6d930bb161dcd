use Rattle.std.proofs.Common.{◌≡◌, ◌++◌, replicate}
use Rattle.fir_tick.proofs.start.put_widths.Given as goal

abbrev pub invariant-loop : goal.invariant-loop
invariant-loop l = l.widths.items ≡ l.initial.widths.items ++ replicate l.counter l.width
