use Rattle.fir_source_laws.proofs.WrittenWords.{keep_masked}
use Rattle.fir_source_laws.proofs.state_laws.memories_keep_masked_leaves.Goals as goal

pub returns : goal.returns
returns c = keep_masked
