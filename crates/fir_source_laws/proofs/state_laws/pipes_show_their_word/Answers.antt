use Rattle.fir_source_laws.proofs.ReadValues.{show_pipe}
use Rattle.fir_source_laws.proofs.state_laws.pipes_show_their_word.Goals as goal

pub returns : goal.returns
returns c = show_pipe
