use Rattle.fir_flat.proofs.FlatMeaning.{has_one_where}
use Rattle.fir_flat.proofs.laws.flat_nets_have_one.Goals as goal

pub returns : goal.returns
returns c = has_one_where c.has_its_type.ensures
