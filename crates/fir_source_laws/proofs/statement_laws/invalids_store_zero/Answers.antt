use Rattle.fir_source_laws.proofs.InvalidStores.{invalid_stores}
use Rattle.fir_source_laws.proofs.statement_laws.invalids_store_zero.Goals as goal

pub returns : goal.returns
returns c = invalid_stores
