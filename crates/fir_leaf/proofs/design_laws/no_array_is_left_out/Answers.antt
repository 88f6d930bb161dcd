use Rattle.fir_leaf.proofs.WholeStates.{arrays_are_all}
use Rattle.fir_leaf.proofs.design_laws.no_array_is_left_out.Goals as goal

pub returns : goal.returns
returns c = arrays_are_all
