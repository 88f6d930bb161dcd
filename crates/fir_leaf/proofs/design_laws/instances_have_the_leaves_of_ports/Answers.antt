use Rattle.fir_leaf.proofs.PortPaths.{same_ports}
use Rattle.fir_leaf.proofs.design_laws.instances_have_the_leaves_of_ports.Goals as goal

pub returns : goal.returns
returns c = same_ports
