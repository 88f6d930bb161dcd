use Rattle.fir_ast.specs.working.Views.{circuit_of}
use Rattle.fir_infer_widths.proofs.DeclaredWalks.{BodiesSoFar}
use Rattle.fir_infer_widths.proofs.declared.push_bodies.Given as goal

abbrev pub invariant-loop-number : goal.invariant-loop-number
invariant-loop-number l = BodiesSoFar (circuit_of l.named) l.number l.arena
