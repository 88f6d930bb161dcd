use Rattle.std.proofs.Common.{◌≡◌, ◌++◌, drop}
use Rattle.fir_meaning.specs.Outcomes.{told_behind, told_once}
use Rattle.fir_driven.proofs.choice.told_once.Given as goal

abbrev pub invariant-loop-outcome : goal.invariant-loop-outcome
invariant-loop-outcome l = told_once l.outcomes ≡ l.told.items ++ told_behind l.before (drop l.outcome-index l.rest)
