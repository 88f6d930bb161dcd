use Rattle.fir_source_laws.proofs.KeptWords.{is_read_until_written_again}
use Rattle.fir_source_laws.proofs.state_laws.writes_are_read_until_written_again.Goals as goal

pub returns : goal.returns
returns c = is_read_until_written_again
