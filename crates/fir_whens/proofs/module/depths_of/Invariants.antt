use Rattle.std.proofs.Common.{◌≡◌, map, take}
use Rattle.fir_leaf_circuit.specs.declared.leaf.Leaf.{Leaf}
use Rattle.fir_whens.proofs.module.depths_of.Given as goal

abbrev pub invariant-loop-leaf : goal.invariant-loop-leaf
invariant-loop-leaf l = l.depths.items ≡ map (λ (leaf : Leaf). leaf.depth) (take l.leaf-index l.leaf-items)
