use Rattle.fir_source_laws.proofs.PortValues.{ports_read_as_stored}
use Rattle.fir_source_laws.proofs.instance_laws.ports_read_as_stored.Goals as goal

pub returns : goal.returns
returns c = ports_read_as_stored
