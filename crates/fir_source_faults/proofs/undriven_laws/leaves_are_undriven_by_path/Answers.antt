use Rattle.fir_source_faults.proofs.SameUndrivenGroups.{same_undriven_groups}
use Rattle.fir_source_faults.proofs.undriven_laws.leaves_are_undriven_by_path.Goals as goal

pub returns : goal.returns
returns c = same_undriven_groups
