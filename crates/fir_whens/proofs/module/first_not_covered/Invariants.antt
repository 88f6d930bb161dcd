use Rattle.fir_whens.specs.working.CoveredModules.{AreCoveredBefore}
use Rattle.fir_whens.proofs.module.first_not_covered.Given as goal

abbrev pub invariant-loop-number : goal.invariant-loop-number
invariant-loop-number l = AreCoveredBefore l.part l.number
