use Rattle.std.proofs.Common.{◌≡◌, ◌++◌, drop, map, reverse}
use Rattle.fir_leaf_circuit.specs.declared.array.LeafArray.{LeafArray}
use Rattle.fir_elaborate.specs.working.Walks.{instance_parts, next_array, next_first}
use Rattle.fir_elaborate.proofs.walk.push_parts.Given as goal

abbrev pub invariant-loop-place : goal.invariant-loop-place
invariant-loop-place l = record {
  upto : l.upto ≡ next_first l.leaves (drop l.place l.instances);
  arrays_upto : l.arrays_upto ≡ next_array (map (λ (a : LeafArray). a.declaration) l.arrays) (drop l.place l.instances);
  pending :
      l.pending.items
      ≡ l.fn.pending.items
      ++ reverse (instance_parts l.at l.leaves (map (λ (a : LeafArray). a.declaration) l.arrays) l.names l.prefix (drop l.place l.instances));
}
