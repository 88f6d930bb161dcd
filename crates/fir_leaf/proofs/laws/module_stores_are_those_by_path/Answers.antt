use Rattle.fir_leaf.proofs.ModuleStores.{same_module_stores}
use Rattle.fir_leaf.proofs.laws.module_stores_are_those_by_path.Goals as goal

pub returns : goal.returns
returns c = same_module_stores
