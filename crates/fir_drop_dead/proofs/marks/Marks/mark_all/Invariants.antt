use Rattle.std.proofs.Common.{◌≡◌, take}
use Rattle.fir_drop_dead.specs.working.Marks.{marked_all}
use Rattle.fir_drop_dead.proofs.marks.Marks.mark_all.Given as goal

abbrev pub invariant-loop-read : goal.invariant-loop-read
invariant-loop-read l = l.self ≡ marked_all (take l.read-index l.reads) l.initial.self
