use Rattle.fir_connect.proofs.LoweredTypes.{lowered_has_type}
use Rattle.fir_connect.proofs.lowered_laws.lowered_has_type.Goals as goal

pub returns : goal.returns
returns c = lowered_has_type
