use Rattle.fir_ast.specs.working.Views.{circuit_of}
use Rattle.fir_infer_widths.proofs.DeclaredWalks.{PortsSoFar}
use Rattle.fir_infer_widths.proofs.declared.push_ports.Given as goal

abbrev pub invariant-loop-number : goal.invariant-loop-number
invariant-loop-number l = PortsSoFar (circuit_of l.named) l.number l.arena
