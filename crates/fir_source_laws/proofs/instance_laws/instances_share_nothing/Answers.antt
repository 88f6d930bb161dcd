use Rattle.fir_source_laws.proofs.OwnPaths.{share_nothing}
use Rattle.fir_source_laws.proofs.instance_laws.instances_share_nothing.Goals as goal

pub returns : goal.returns
returns c = share_nothing
