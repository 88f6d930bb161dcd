use Rattle.fir_meaning.proofs.InferredNodes.{nodes_as_inferred}
use Rattle.fir_meaning.proofs.width_laws.nodes_as_inferred.Goals as goal

pub returns : goal.returns
returns c = nodes_as_inferred
