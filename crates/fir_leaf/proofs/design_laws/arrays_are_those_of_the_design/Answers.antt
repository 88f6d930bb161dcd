use Rattle.fir_leaf.proofs.FlatArrays.{same_arrays}
use Rattle.fir_leaf.proofs.design_laws.arrays_are_those_of_the_design.Goals as goal

pub returns : goal.returns
returns c = same_arrays
