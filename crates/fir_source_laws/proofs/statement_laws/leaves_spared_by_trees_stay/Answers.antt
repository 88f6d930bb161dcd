use Rattle.fir_source_laws.proofs.ModuleStores.{spared_in_trees}
use Rattle.fir_source_laws.proofs.statement_laws.leaves_spared_by_trees_stay.Goals as goal

pub returns : goal.returns
returns c = spared_in_trees
