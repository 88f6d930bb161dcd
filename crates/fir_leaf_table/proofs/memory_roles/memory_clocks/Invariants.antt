use Rattle.std.proofs.Common.{length}
use Rattle.fir_meaning.specs.working.LeafMemories.{clocks_from}
use Rattle.fir_leaf_table.proofs.PortsLeft.{PortsLeft}
use Rattle.fir_leaf_table.proofs.memory_roles.memory_clocks.Given as goal

abbrev pub invariant-loop-port : goal.invariant-loop-port
invariant-loop-port l = PortsLeft (clocks_from (length l.memory.data.items)) l.memory.ports.items l.memory.first l.port-index l.begins l.clocks.items
