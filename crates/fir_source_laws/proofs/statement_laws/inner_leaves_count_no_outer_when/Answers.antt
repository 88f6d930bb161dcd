use Rattle.fir_source_laws.proofs.WhenBranches.{inner_leaves_count_none}
use Rattle.fir_source_laws.proofs.statement_laws.inner_leaves_count_no_outer_when.Goals as goal

pub returns : goal.returns
returns c = inner_leaves_count_none
