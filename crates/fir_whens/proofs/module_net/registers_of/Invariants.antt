use Rattle.std.proofs.Common.{◌≡◌, map, take}
use Rattle.fir_leaf_circuit.specs.declared.leaf.Leaf.{Leaf}
use Rattle.fir_whens.specs.working.StandingRoles.{is_register}
use Rattle.fir_whens.proofs.module_net.registers_of.Given as goal

abbrev pub invariant-loop-leaf : goal.invariant-loop-leaf
invariant-loop-leaf l = l.registers.items ≡ map (λ (leaf : Leaf). is_register leaf.role) (take l.leaf-index l.leaf-items)
