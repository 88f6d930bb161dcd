use Rattle.std.proofs.Common.{◌≡◌}
use Rattle.fir_fold.specs.working.Standing.{stands_for, leaf_read}
use Rattle.fir_fold.proofs.WrittenInTurn.{first_mapped}
use Rattle.fir_fold.proofs.role_reads.read_leaves_anew.Given as goal

abbrev pub invariant-loop-leaf : goal.invariant-loop-leaf
invariant-loop-leaf l = l.leaves ≡ first_mapped (leaf_read (stands_for l.stands)) l.leaf-index l.fn.leaves
