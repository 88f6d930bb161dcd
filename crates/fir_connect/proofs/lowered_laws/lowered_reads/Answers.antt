use Rattle.fir_connect.proofs.LoweredReads.{lowered_reads}
use Rattle.fir_connect.proofs.lowered_laws.lowered_reads.Goals as goal

pub returns : goal.returns
returns c = lowered_reads
