use Rattle.fir_type_table.specs.working.Tables.{types_of}
use Rattle.fir_ground.proofs.FirstLeaves.{FirstsSoFar}
use Rattle.fir_ground.proofs.firsts.first_leaves.Given as goal

abbrev pub invariant-loop-found : goal.invariant-loop-found
invariant-loop-found l = FirstsSoFar (types_of l.table) l.declared l.found-index l.firsts.items l.next
