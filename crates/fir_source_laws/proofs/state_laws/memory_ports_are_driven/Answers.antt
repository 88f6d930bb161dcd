use Rattle.fir_source_laws.proofs.ReadRoles.{others_are_driven}
use Rattle.fir_source_laws.proofs.state_laws.memory_ports_are_driven.Goals as goal

pub returns : goal.returns
returns c = others_are_driven
