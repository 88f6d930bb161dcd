use Rattle.fir_type_table.specs.working.Tables.{types_of}
use Rattle.fir_leaf_pairs.proofs.Driving.{ZerosSoFar}
use Rattle.fir_leaf_pairs.proofs.drive.drive_zeros.Given as goal

abbrev pub invariant-loop-leaf : goal.invariant-loop-leaf
invariant-loop-leaf l = ZerosSoFar (types_of l.table) l.fn.out.items l.out.items l.place l.target l.zeros l.sinks l.leaf
