use Rattle.fir_leaf.proofs.ClosedWalks.{chain_is_walk}
use Rattle.fir_leaf.proofs.fault_laws.chain_is_walk.Goals as goal

pub returns : goal.returns
returns c = chain_is_walk
