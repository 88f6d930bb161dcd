use Rattle.fir_leaf.proofs.OnceStates.{words_once}
use Rattle.fir_leaf.proofs.design_laws.words_stand_once.Goals as goal

pub returns : goal.returns
returns c = words_once
