use Rattle.fir_elaborate.proofs.OrderedModules.{modules_ordered}
use Rattle.fir_elaborate.proofs.laws.modules_are_ordered.Goals as goal

pub returns : goal.returns
returns c = modules_ordered
