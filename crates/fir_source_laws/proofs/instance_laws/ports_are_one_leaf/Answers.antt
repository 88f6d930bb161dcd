use Rattle.fir_source_laws.proofs.PortValues.{ports_are_one}
use Rattle.fir_source_laws.proofs.instance_laws.ports_are_one_leaf.Goals as goal

pub returns : goal.returns
returns c = ports_are_one
