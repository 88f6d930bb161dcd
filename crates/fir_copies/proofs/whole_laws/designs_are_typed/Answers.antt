use Rattle.fir_copies.proofs.TypedDesigns.{designs_typed}
use Rattle.fir_copies.proofs.whole_laws.designs_are_typed.Goals as goal

pub returns : goal.returns
returns c = designs_typed
