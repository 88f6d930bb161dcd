use Rattle.fir_connect.proofs.LoweredValues.{lowered_is_worth}
use Rattle.fir_connect.proofs.lowered_laws.lowered_is_worth.Goals as goal

pub returns : goal.returns
returns c = lowered_is_worth
