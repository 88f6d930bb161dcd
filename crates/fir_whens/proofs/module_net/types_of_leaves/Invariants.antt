use Rattle.std.proofs.Common.{◌≡◌, map, take}
use Rattle.fir_leaf_circuit.specs.declared.leaf.Leaf.{Leaf}
use Rattle.fir_leaf_circuit.specs.working.Seen.{type_seen}
use Rattle.fir_meaning.specs.LeafTypes.{number_type}
use Rattle.fir_whens.proofs.module_net.types_of_leaves.Given as goal

abbrev pub invariant-loop-leaf : goal.invariant-loop-leaf
invariant-loop-leaf l = l.types.items ≡ map (λ (leaf : Leaf). number_type (type_seen leaf.holds)) (take l.leaf-index l.leaf-items)
