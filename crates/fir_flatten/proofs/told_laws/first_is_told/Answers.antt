use Rattle.fir_flatten.proofs.FirstTold.{first_told}
use Rattle.fir_flatten.proofs.told_laws.first_is_told.Goals as goal

pub returns : goal.returns
returns c = first_told
