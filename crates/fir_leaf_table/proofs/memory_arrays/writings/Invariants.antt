use Rattle.std.proofs.Common.{length, map}
use Rattle.fir_meaning.specs.working.LeafMemories.{writings_from}
use Rattle.fir_leaf_circuit.specs.working.Seen.{writing_seen}
use Rattle.fir_leaf_table.proofs.PortsLeft.{PortsLeft}
use Rattle.fir_leaf_table.proofs.memory_arrays.writings.Given as goal

abbrev pub invariant-loop-port : goal.invariant-loop-port
invariant-loop-port l =
    PortsLeft (writings_from (length l.memory.data.items) l.leaf) l.memory.ports.items l.memory.first l.port-index l.begins
    (map writing_seen l.writings.items)
