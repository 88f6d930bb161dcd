use Rattle.fir_meaning.proofs.DistinctLeaves.{paths_distinct}
use Rattle.fir_meaning.proofs.type_laws.paths_are_distinct.Goals as goal

pub returns : goal.returns
returns c = paths_distinct
