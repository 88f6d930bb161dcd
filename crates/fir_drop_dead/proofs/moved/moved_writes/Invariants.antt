use Rattle.std.proofs.Common.{◌≡◌, map, take}
use Rattle.fir_drop_dead.specs.working.Moved.{moved_write}
use Rattle.fir_drop_dead.proofs.moved.moved_writes.Given as goal

abbrev pub invariant-loop-write : goal.invariant-loop-write
invariant-loop-write l = l.moved.items ≡ map (moved_write l.kept) (take l.write-index l.writes)
