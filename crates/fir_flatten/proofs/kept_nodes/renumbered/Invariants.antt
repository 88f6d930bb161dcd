use Rattle.std.proofs.Common.{◌≡◌, take}
use Rattle.fir_flatten.specs.working.KeptNodes.{moved_all}
use Rattle.fir_flatten.proofs.kept_nodes.renumbered.Given as goal

abbrev pub invariant-loop-read : goal.invariant-loop-read
invariant-loop-read l = l.all ≡ moved_all l.places (take l.read-index l.reads)
