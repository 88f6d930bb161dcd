use Rattle.fir_meaning.proofs.PartialPairs.{partial_fit}
use Rattle.fir_meaning.proofs.type_laws.partial_connects_fit.Goals as goal

pub returns : goal.returns
returns c = partial_fit
