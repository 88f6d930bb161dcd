use Rattle.fir_leaf.proofs.PortRoles.{leafed_ports}
use Rattle.fir_leaf.proofs.design_laws.leafed_ports_show_no_state.Goals as goal

pub returns : goal.returns
returns c = leafed_ports
