use Rattle.fir_source_laws.proofs.TreeModules.{main_on_top}
use Rattle.fir_source_laws.proofs.instance_laws.main_module_is_on_top.Goals as goal

pub returns : goal.returns
returns c = main_on_top
