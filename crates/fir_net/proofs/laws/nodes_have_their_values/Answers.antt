use Rattle.fir_net.proofs.KnownValues.{nodes_have}
use Rattle.fir_net.proofs.laws.nodes_have_their_values.Goals as goal

pub returns : goal.returns
returns c = nodes_have
