use Rattle.fir_net.proofs.WholeValues.{nodes_have_types}
use Rattle.fir_net.proofs.laws.nodes_have_their_types.Goals as goal

pub returns : goal.returns
returns c = nodes_have_types c.has_its_type.ensures
