use Rattle.std.proofs.Common.{◌≡◌, map}
use Rattle.fir_leaf_circuit.specs.declared.array.LeafArray.{LeafArray}
use Rattle.fir_elaborate.specs.working.Walks.{first_from}
use Rattle.fir_elaborate.proofs.words.arrays_before.Given as goal

abbrev pub invariant-loop-before : goal.invariant-loop-before
invariant-loop-before l =
    first_from (map (λ (a : LeafArray). a.declaration) l.arrays) l.upto l.declaration
    ≡ first_from (map (λ (a : LeafArray). a.declaration) l.arrays) l.before l.declaration
