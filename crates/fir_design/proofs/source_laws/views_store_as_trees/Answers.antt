use Rattle.fir_design.proofs.TreesStored.{views_store}
use Rattle.fir_design.proofs.source_laws.views_store_as_trees.Goals as goal

pub returns : goal.returns
returns c = views_store
