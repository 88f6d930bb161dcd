use Rattle.fir_driven.proofs.FirstChoices.{covered_is_driven}
use Rattle.fir_driven.proofs.laws.covered_is_driven.Goals as goal

pub returns : goal.returns
returns c = covered_is_driven
