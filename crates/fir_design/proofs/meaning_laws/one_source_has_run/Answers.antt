use Rattle.fir_design.proofs.TreeRuns.{one_has_run}
use Rattle.fir_design.proofs.meaning_laws.one_source_has_run.Goals as goal

pub returns : goal.returns
returns c = one_has_run
