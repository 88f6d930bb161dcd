use Rattle.fir_source_laws.proofs.WrittenWords.{take_the_last_write}
use Rattle.fir_source_laws.proofs.state_laws.memories_take_the_last_write.Goals as goal

pub returns : goal.returns
returns c = take_the_last_write
