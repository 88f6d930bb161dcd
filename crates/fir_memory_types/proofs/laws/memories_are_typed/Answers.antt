use Rattle.fir_memory_types.proofs.MemoriesTyped.{memories_typed}
use Rattle.fir_memory_types.proofs.laws.memories_are_typed.Goals as goal

pub returns : goal.returns
returns c = memories_typed
