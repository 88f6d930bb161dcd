use Rattle.fir_connect.proofs.DriverValues.{driver_is_worth}
use Rattle.fir_connect.proofs.driver_laws.driver_is_worth.Goals as goal

pub returns : goal.returns
returns c = driver_is_worth
