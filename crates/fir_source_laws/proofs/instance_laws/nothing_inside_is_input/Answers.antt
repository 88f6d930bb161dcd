use Rattle.fir_source_laws.proofs.TreeModules.{nothing_inside_is_input}
use Rattle.fir_source_laws.proofs.instance_laws.nothing_inside_is_input.Goals as goal

pub returns : goal.returns
returns c = nothing_inside_is_input
