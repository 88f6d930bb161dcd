use Rattle.fir_source_laws.proofs.KeptWords.{reads_a_tick_later}
use Rattle.fir_source_laws.proofs.state_laws.pipes_are_read_a_tick_later.Goals as goal

pub returns : goal.returns
returns c = reads_a_tick_later
