use Rattle.fir_elaborate.proofs.CopyArrays.{arrays_of_modules}
use Rattle.fir_elaborate.proofs.laws.arrays_are_of_modules.Goals as goal

pub returns : goal.returns
returns c = arrays_of_modules
