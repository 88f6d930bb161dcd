use Rattle.fir_meaning.proofs.OneLookUp.{one_look_up}
use Rattle.fir_meaning.proofs.laws.one_look_up.Goals as goal

pub returns : goal.returns
returns c = one_look_up
