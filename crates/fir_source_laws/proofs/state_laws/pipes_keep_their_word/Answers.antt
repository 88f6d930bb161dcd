use Rattle.fir_source_laws.proofs.ReadValues.{keep_piped}
use Rattle.fir_source_laws.proofs.state_laws.pipes_keep_their_word.Goals as goal

pub returns : goal.returns
returns c = keep_piped
