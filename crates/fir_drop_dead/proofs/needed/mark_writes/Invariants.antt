use Rattle.std.proofs.Common.{◌≡◌, take}
use Rattle.fir_drop_dead.specs.working.Marks.{marked_all}
use Rattle.fir_drop_dead.specs.working.Needed.{writes_reads}
use Rattle.fir_drop_dead.proofs.needed.mark_writes.Given as goal

abbrev pub invariant-loop-write : goal.invariant-loop-write
invariant-loop-write l = l.marks ≡ marked_all (writes_reads (take l.write-index l.writes)) l.initial.marks
