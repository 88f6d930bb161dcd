use Rattle.fir_leaf.proofs.LeafRuns.{one_has_run}
use Rattle.fir_leaf.proofs.run_laws.one_has_run.Goals as goal

pub returns : goal.returns
returns c = one_has_run
