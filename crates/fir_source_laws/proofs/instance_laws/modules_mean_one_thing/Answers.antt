use Rattle.fir_source_laws.proofs.MovedModules.{modules_mean_one_thing}
use Rattle.fir_source_laws.proofs.instance_laws.modules_mean_one_thing.Goals as goal

pub returns : goal.returns
returns c = modules_mean_one_thing
