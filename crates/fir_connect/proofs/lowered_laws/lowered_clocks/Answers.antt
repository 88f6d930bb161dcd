use Rattle.fir_connect.proofs.LoweredClocks.{lowered_clocks}
use Rattle.fir_connect.proofs.lowered_laws.lowered_clocks.Goals as goal

pub returns : goal.returns
returns c = lowered_clocks
