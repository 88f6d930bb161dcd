use Rattle.fir_source_laws.proofs.ReadValues.{show_zero}
use Rattle.fir_source_laws.proofs.state_laws.idle_reads_show_zero.Goals as goal

pub returns : goal.returns
returns c = show_zero
