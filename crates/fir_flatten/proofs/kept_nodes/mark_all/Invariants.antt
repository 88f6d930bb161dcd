use Rattle.std.proofs.Common.{◌≡◌, take}
use Rattle.fir_flatten.specs.working.KeptNodes.{marked_all}
use Rattle.fir_flatten.proofs.kept_nodes.mark_all.Given as goal

abbrev pub invariant-loop-read : goal.invariant-loop-read
invariant-loop-read l = l.needed ≡ marked_all (take l.read-index l.reads) l.initial.needed
