use Rattle.fir_leaf.proofs.OnceStates.{arrays_once}
use Rattle.fir_leaf.proofs.design_laws.arrays_stand_once.Goals as goal

pub returns : goal.returns
returns c = arrays_once
