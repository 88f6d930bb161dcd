use Rattle.fir_ast.specs.working.Views.{circuit_of}
use Rattle.fir_leaf_table.proofs.LeafedSoFar.{LeafedSoFar}
use Rattle.fir_leaf_table.proofs.leafed.leafed_modules.Given as goal

abbrev pub invariant-loop-number : goal.invariant-loop-number
invariant-loop-number l = LeafedSoFar (circuit_of l.fitted) l.modules.items l.number
