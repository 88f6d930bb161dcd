use Rattle.fir_meaning.proofs.LeafNumbers.{numbers_leaves}
use Rattle.fir_meaning.proofs.type_laws.leaves_have_numbers.Goals as goal

pub returns : goal.returns
returns c = numbers_leaves
