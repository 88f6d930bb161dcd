use Rattle.fir_leaf.proofs.FlatMeaning.{same_stores}
use Rattle.fir_leaf.proofs.design_laws.flat_stores_are_those_of_the_design.Goals as goal

pub returns : goal.returns
returns c = same_stores
