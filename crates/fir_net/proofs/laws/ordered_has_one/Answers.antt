use Rattle.fir_net.proofs.OneChoice.{ordered_has_one}
use Rattle.fir_net.proofs.laws.ordered_has_one.Goals as goal

pub returns : goal.returns
returns c = ordered_has_one c.has_its_type.ensures
