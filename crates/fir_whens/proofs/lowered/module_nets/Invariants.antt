use Rattle.fir_ast.specs.working.Views.{circuit_of}
use Rattle.fir_whens.proofs.NetsOfCircuits.{NetsSoFar}
use Rattle.fir_whens.proofs.lowered.module_nets.Given as goal

abbrev pub invariant-loop-part : goal.invariant-loop-part
invariant-loop-part l = NetsSoFar (circuit_of l.circuit) l.nets.items l.part-index
