use Rattle.std.proofs.Common.{◌≡◌, take}
use Rattle.fir_drop_dead.specs.working.Marks.{marked_all}
use Rattle.fir_drop_dead.specs.working.Needed.{root_reads}
use Rattle.fir_drop_dead.proofs.needed.mark_roots.Given as goal

abbrev pub invariant-loop-number : goal.invariant-loop-number
invariant-loop-number l = l.marks ≡ marked_all (root_reads 0 (take l.number l.leaves)) l.initial.marks
