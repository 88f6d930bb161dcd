use Rattle.fir_copies.proofs.TypedMemories.{designs_have_memories}
use Rattle.fir_copies.proofs.whole_laws.designs_have_typed_memories.Goals as goal

pub returns : goal.returns
returns c = designs_have_memories
