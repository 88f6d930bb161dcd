use Rattle.fir_least_widths.specs.working.Rounds.{Round}
use Rattle.fir_least_widths.proofs.rounds.raise_each.Given as goal

abbrev pub invariant-loop-bound : goal.invariant-loop-bound
invariant-loop-bound l = Round l.bounds l.initial.widths l.widths l.rose l.bound-index
