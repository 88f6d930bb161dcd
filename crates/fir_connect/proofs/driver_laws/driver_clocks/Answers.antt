use Rattle.fir_connect.proofs.DriverClocking.{driver_clocks}
use Rattle.fir_connect.proofs.driver_laws.driver_clocks.Goals as goal

pub returns : goal.returns
returns c = driver_clocks
