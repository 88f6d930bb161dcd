use Rattle.fir_source_laws.proofs.InstanceStores.{instances_store_below}
use Rattle.fir_source_laws.proofs.instance_laws.instances_store_below_their_paths.Goals as goal

pub returns : goal.returns
returns c = instances_store_below
