use Rattle.std.proofs.Common.{List, map}
use Rattle.fir_leaf.specs.declared.node.Node.{Node}
use Rattle.fir_meaning.specs.working.LeafMemories.{LeafMemory, roles_from}
use Rattle.fir_meaning.specs.LeafTypes.{LeafType}
use Rattle.fir_leaf_table.specs.working.Memories.{IsMemory}
use Rattle.fir_leaf_circuit.specs.working.Seen.{role_seen}
use Rattle.fir_leaf_table.proofs.PortsLeft.{PortsLeft}
use Rattle.fir_leaf_table.proofs.memory_roles.memory_roles.Given as goal

abbrev pub invariant-loop-port : goal.invariant-loop-port
invariant-loop-port l =
    (nodes : List Node) (meant : LeafMemory) (holds : List LeafType) → IsMemory l.memory meant holds
    → PortsLeft (roles_from meant) l.memory.ports.items l.memory.first l.port-index l.begins (map (role_seen nodes) l.roles.items)
