use Rattle.fir_source_laws.proofs.InstanceStores.{instances_tell_by_leaf}
use Rattle.fir_source_laws.proofs.instance_laws.instances_store_by_leaf.Goals as goal

pub returns : goal.returns
returns c = instances_tell_by_leaf
