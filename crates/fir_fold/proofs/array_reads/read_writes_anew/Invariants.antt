use Rattle.std.proofs.Common.{◌≡◌}
use Rattle.fir_fold.specs.working.Standing.{stands_for, write_read}
use Rattle.fir_fold.proofs.WrittenInTurn.{first_mapped}
use Rattle.fir_fold.proofs.array_reads.read_writes_anew.Given as goal

abbrev pub invariant-loop-write : goal.invariant-loop-write
invariant-loop-write l = l.writes ≡ first_mapped (write_read (stands_for l.stands)) l.write-index l.fn.writes
