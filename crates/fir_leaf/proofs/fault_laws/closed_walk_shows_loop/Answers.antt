use Rattle.fir_leaf.proofs.ClosedWalks.{closed_walk_shows_loop}
use Rattle.fir_leaf.proofs.fault_laws.closed_walk_shows_loop.Goals as goal

pub returns : goal.returns
returns c = closed_walk_shows_loop
