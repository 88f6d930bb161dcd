use Rattle.fir_source_laws.proofs.ReadValues.{pipe_the_old_word}
use Rattle.fir_source_laws.proofs.state_laws.pipes_take_the_old_word.Goals as goal

pub returns : goal.returns
returns c = pipe_the_old_word
