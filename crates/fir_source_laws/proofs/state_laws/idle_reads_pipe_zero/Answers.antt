use Rattle.fir_source_laws.proofs.ReadValues.{pipe_zero}
use Rattle.fir_source_laws.proofs.state_laws.idle_reads_pipe_zero.Goals as goal

pub returns : goal.returns
returns c = pipe_zero
