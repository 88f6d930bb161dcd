use Rattle.std.proofs.Common.{◌≡◌}
use Rattle.fir_fold.specs.working.Standing.{stands_for, written_array}
use Rattle.fir_fold.proofs.WrittenInTurn.{first_mapped}
use Rattle.fir_fold.proofs.array_reads.read_arrays_anew.Given as goal

abbrev pub invariant-loop-array : goal.invariant-loop-array
invariant-loop-array l = l.arrays ≡ first_mapped (written_array (stands_for l.stands)) l.array-index l.fn.arrays
