use Rattle.fir_leaf.proofs.TableStores.{table_stores}
use Rattle.fir_leaf.proofs.table_laws.table_stores.Goals as goal

pub returns : goal.returns
returns c = table_stores
