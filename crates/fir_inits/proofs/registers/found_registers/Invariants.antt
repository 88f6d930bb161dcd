use Rattle.fir_inits.specs.working.AsyncInits.{AreAsync}
use Rattle.fir_inits.proofs.registers.found_registers.Given as goal

abbrev pub invariant-loop-number : goal.invariant-loop-number
invariant-loop-number l = AreAsync l.net l.number l.registers.items
