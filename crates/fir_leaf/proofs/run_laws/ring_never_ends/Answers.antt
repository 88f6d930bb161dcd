use Rattle.fir_leaf.proofs.ClockRings.{ring_never_ends}
use Rattle.fir_leaf.proofs.run_laws.ring_never_ends.Goals as goal

pub returns : goal.returns
returns c = ring_never_ends
