use Rattle.fir_ast.specs.working.Views.{circuit_of}
use Rattle.fir_infer_resets.specs.working.MarkedLeaves.{AreFirstMarked}
use Rattle.fir_infer_resets.proofs.marked.map_of.Given as goal

abbrev pub invariant-loop-place : goal.invariant-loop-place
invariant-loop-place l = AreFirstMarked (circuit_of l.named) l.ends l.marks l.found.items l.place
