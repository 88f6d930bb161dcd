use Rattle.std.proofs.Common.{rules}
use Rattle.fir_flatten.specs.working.MovedNets.{saturated}
use Rattle.fir_flatten.proofs.offsets.Offsets.read.Goals as goal

pub returns-in-Node : goal.returns-in-Node
unfolding saturated
returns-in-Node c = search rules
