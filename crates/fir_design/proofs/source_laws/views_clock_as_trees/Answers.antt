use Rattle.fir_design.proofs.TreesStored.{views_clock}
use Rattle.fir_design.proofs.source_laws.views_clock_as_trees.Goals as goal

pub returns : goal.returns
returns c = views_clock
