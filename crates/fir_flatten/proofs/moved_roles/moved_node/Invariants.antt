use Rattle.std.proofs.Common.{◌≡◌, take}
use Rattle.fir_flatten.specs.working.MovedNets.{reads_moved}
use Rattle.fir_flatten.proofs.moved_roles.moved_node.Given as goal

abbrev pub invariant-loop-read : goal.invariant-loop-read
invariant-loop-read l = l.reads ≡ reads_moved l.at (take l.read-index l.read-items)
