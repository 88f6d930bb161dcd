use Rattle.fir_least_widths.specs.working.Waiting.{AllWait}
use Rattle.fir_least_widths.proofs.waiting.Waiting.add_all.Given as goal

abbrev pub invariant-loop-place : goal.invariant-loop-place
invariant-loop-place l = AllWait l.initial.self l.self l.places l.place-index
