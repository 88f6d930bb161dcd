use Rattle.fir_ast.specs.working.Views.{circuit_of}
use Rattle.fir_types.proofs.LeafWalks.{CircuitSoFar}
use Rattle.fir_types.proofs.leaf_numbers.first_leaves.Given as goal

abbrev pub invariant-loop-number : goal.invariant-loop-number
invariant-loop-number l = CircuitSoFar (circuit_of l.named) l.number l.next l.leaves.items
