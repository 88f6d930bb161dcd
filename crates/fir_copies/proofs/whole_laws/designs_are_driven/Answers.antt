use Rattle.fir_copies.proofs.DrivenDesigns.{designs_driven}
use Rattle.fir_copies.proofs.whole_laws.designs_are_driven.Goals as goal

pub returns : goal.returns
returns c = designs_driven
