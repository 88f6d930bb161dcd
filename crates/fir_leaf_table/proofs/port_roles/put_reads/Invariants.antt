use Rattle.std.proofs.Common.{◌≡◌, ◌++◌, ◌∷◌, List, false, map}
use Rattle.fir_leaf.specs.declared.node.Node.{Node}
use Rattle.fir_meaning.specs.working.LeafMemories.{LeafMemory, enable, read_roles}
use Rattle.fir_meaning.specs.LeafTypes.{LeafType}
use Rattle.fir_leaf_table.specs.working.Memories.{IsMemory}
use Rattle.fir_leaf_circuit.specs.working.Seen.{mode_need, role_seen}
use Rattle.fir_leaf_table.proofs.port_roles.put_reads.Given as goal

abbrev pub invariant-loop-leaf : goal.invariant-loop-leaf
invariant-loop-leaf l =
    (nodes : List Node) (meant : LeafMemory) (holds : List LeafType) → IsMemory l.memory meant holds
    → map (role_seen nodes) l.roles.items
    ≡ map (role_seen nodes) l.initial.roles.items ++ read_roles meant (enable l.address ∷ mode_need false l.mode) l.address 0 l.leaf
