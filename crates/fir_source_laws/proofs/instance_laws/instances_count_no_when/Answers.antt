use Rattle.fir_source_laws.proofs.InstanceStores.{instances_count_no_when}
use Rattle.fir_source_laws.proofs.instance_laws.instances_count_no_when.Goals as goal

pub returns : goal.returns
returns c = instances_count_no_when
