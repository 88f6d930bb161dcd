use Rattle.fir_source_laws.proofs.InvalidStores.{invalid_spares_sources}
use Rattle.fir_source_laws.proofs.statement_laws.invalids_spare_sources.Goals as goal

pub returns : goal.returns
returns c = invalid_spares_sources
