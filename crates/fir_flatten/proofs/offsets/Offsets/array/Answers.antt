use Rattle.fir_flatten.specs.working.MovedNets.{saturated}
use Rattle.fir_flatten.proofs.offsets.Offsets.array.Goals as goal

pub returns : goal.returns
unfolding saturated
returns c = c.saturating_add.ensures
