use Rattle.fir_source_laws.proofs.WrittenWords.{stay_unwritten}
use Rattle.fir_source_laws.proofs.state_laws.memories_keep_what_is_unwritten.Goals as goal

pub returns : goal.returns
returns c = stay_unwritten
