use Rattle.fir_source_laws.proofs.WhenBranches.{when_runs_one}
use Rattle.fir_source_laws.proofs.statement_laws.whens_run_one_block.Goals as goal

pub returns : goal.returns
returns c = when_runs_one
