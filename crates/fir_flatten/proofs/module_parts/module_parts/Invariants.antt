use Rattle.fir_ast.specs.working.Views.{circuit_of}
use Rattle.fir_flatten.proofs.PartsSoFar.{PartsSoFar}
use Rattle.fir_flatten.proofs.module_parts.module_parts.Given as goal

abbrev pub invariant-loop-number : goal.invariant-loop-number
invariant-loop-number l = PartsSoFar (circuit_of l.circuit) l.parts.items l.number
