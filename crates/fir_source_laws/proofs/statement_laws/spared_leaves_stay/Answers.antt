use Rattle.fir_source_laws.proofs.ModuleStores.{spared_stays}
use Rattle.fir_source_laws.proofs.statement_laws.spared_leaves_stay.Goals as goal

pub returns : goal.returns
returns c = spared_stays
