use Rattle.fir_driven.proofs.FirstChoices.{missed_is_first}
use Rattle.fir_driven.proofs.laws.missed_is_first.Goals as goal

pub returns : goal.returns
returns c = missed_is_first
