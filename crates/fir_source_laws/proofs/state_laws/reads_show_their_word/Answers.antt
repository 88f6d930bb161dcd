use Rattle.fir_source_laws.proofs.ReadValues.{show_word}
use Rattle.fir_source_laws.proofs.state_laws.reads_show_their_word.Goals as goal

pub returns : goal.returns
returns c = show_word
