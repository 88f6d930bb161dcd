use Rattle.std.proofs.Common.{◌≡◌, map, take}
use Rattle.fir_drop_dead.specs.working.Moved.{moved_read}
use Rattle.fir_drop_dead.proofs.moved_nodes.moved_reads.Given as goal

abbrev pub invariant-loop-read : goal.invariant-loop-read
invariant-loop-read l = l.moved ≡ map (moved_read l.kept) (take l.read-index l.reads)
