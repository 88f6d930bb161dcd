use Rattle.fir_leaf.proofs.BlockStores.{same_stores}
use Rattle.fir_leaf.proofs.laws.stores_by_number_are_those_by_path.Goals as goal

pub returns : goal.returns
returns c = same_stores
