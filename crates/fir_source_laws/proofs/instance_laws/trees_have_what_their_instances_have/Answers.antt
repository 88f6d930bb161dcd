use Rattle.fir_source_laws.proofs.TreeParts.{trees_have}
use Rattle.fir_source_laws.proofs.instance_laws.trees_have_what_their_instances_have.Goals as goal

pub returns : goal.returns
returns c = trees_have
