use Rattle.fir_leaf.proofs.ShownStates.{arrays_have_bits}
use Rattle.fir_leaf.proofs.design_laws.arrays_have_bits.Goals as goal

pub returns : goal.returns
returns c = arrays_have_bits
