use Rattle.std.proofs.Common.{take}
use Rattle.fir_mem.specs.working.Built.{Puts, put_choices, choices_read}
use Rattle.fir_mem.proofs.taken.put_choices.Given as goal

abbrev pub invariant-loop-write : goal.invariant-loop-write
invariant-loop-write l =
    Puts l.lowered l.taken (put_choices l.fn.lowered l.address l.ty (take l.write-index l.writes) l.fn.word)
    (choices_read l.fn.lowered l.address l.ty (take l.write-index l.writes) l.fn.word)
