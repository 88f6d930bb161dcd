use Rattle.fir_connect.proofs.DriverReading.{driver_reads}
use Rattle.fir_connect.proofs.driver_laws.driver_reads.Goals as goal

pub returns : goal.returns
returns c = driver_reads
