use Rattle.fir_leaf.proofs.ClosedWalks.{ring_shows_loop}
use Rattle.fir_leaf.proofs.fault_laws.ring_shows_loop.Goals as goal

pub returns : goal.returns
returns c = ring_shows_loop
