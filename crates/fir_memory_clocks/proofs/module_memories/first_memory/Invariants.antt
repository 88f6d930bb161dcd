use Rattle.std.proofs.Common.{map, take}
use Rattle.fir_leaf_circuit.specs.working.Seen.{memory_seen}
use Rattle.fir_meaning.specs.working.LeafModules.{LeafModule}
use Rattle.fir_memory_clocks.specs.working.ModuleMemories.{AreClocksOf, IsFirstAmong}
use Rattle.fir_memory_clocks.proofs.module_memories.first_memory.Given as goal

abbrev pub invariant-loop-memory : goal.invariant-loop-memory
invariant-loop-memory l =
    (m : LeafModule) → AreClocksOf l.module m l.roots → IsFirstAmong m (map memory_seen (take l.memory-index l.module.memories.items)) l.first
