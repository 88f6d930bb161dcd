use Rattle.fir_source_laws.proofs.TreeModules.{instances_are}
use Rattle.fir_source_laws.proofs.instance_laws.instances_are_of_their_modules.Goals as goal

pub returns : goal.returns
returns c = instances_are
