use Rattle.fir_inits.specs.working.Constants.{AreNumbers}
use Rattle.fir_inits.proofs.constants.constants.Given as goal

abbrev pub invariant-loop-read : goal.invariant-loop-read
invariant-loop-read l = AreNumbers l.net l.order l.read-index l.numbers.items
