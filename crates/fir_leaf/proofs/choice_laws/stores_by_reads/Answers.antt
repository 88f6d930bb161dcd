use Rattle.fir_leaf.proofs.ReadStores.{stores_by_reads}
use Rattle.fir_leaf.proofs.choice_laws.stores_by_reads.Goals as goal

pub returns : goal.returns
returns c = stores_by_reads
