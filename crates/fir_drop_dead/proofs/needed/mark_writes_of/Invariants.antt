use Rattle.std.proofs.Common.{◌≡◌, take}
use Rattle.fir_drop_dead.specs.working.Marks.{marked_all}
use Rattle.fir_drop_dead.specs.working.Needed.{arrays_reads}
use Rattle.fir_drop_dead.proofs.needed.mark_writes_of.Given as goal

abbrev pub invariant-loop-array : goal.invariant-loop-array
invariant-loop-array l = l.marks ≡ marked_all (arrays_reads (take l.array-index l.arrays)) l.initial.marks
