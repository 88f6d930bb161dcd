use Rattle.fir_leaf.proofs.LeafValues.{same_values}
use Rattle.fir_leaf.proofs.laws.values_by_number_are_those_by_path.Goals as goal

pub returns : goal.returns
returns c = same_values
