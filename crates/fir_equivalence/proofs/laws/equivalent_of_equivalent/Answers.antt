use Rattle.fir_equivalence.proofs.Equivalent.{of_equivalent}
use Rattle.fir_equivalence.proofs.laws.equivalent_of_equivalent.Goals as goal

pub returns : goal.returns
returns c = of_equivalent
