use Rattle.fir_flat.proofs.FlatMeaning.{allows_the_same}
use Rattle.fir_flat.proofs.laws.flat_nets_allow_the_same.Goals as goal

pub returns : goal.returns
returns c = allows_the_same c.has_its_type.ensures
