use Rattle.fir_memory_types.proofs.ClocksOfMemories.{clocks_of_memories}
use Rattle.fir_memory_types.proofs.laws.clocks_are_of_memories.Goals as goal

pub returns : goal.returns
returns c = clocks_of_memories
