use Rattle.fir_source_laws.proofs.TreeParts.{ports_are_leaves}
use Rattle.fir_source_laws.proofs.instance_laws.ports_of_instances_are_leaves.Goals as goal

pub returns : goal.returns
returns c = ports_are_leaves
