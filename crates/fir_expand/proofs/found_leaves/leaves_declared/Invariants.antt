use Rattle.std.proofs.Common.{map}
use Rattle.fir_type_table.specs.working.Tables.{types_of}
use Rattle.fir_types.specs.working.Seen.{seen}
use Rattle.fir_meaning.specs.Costs.{leaves_where, sum_of}
use Rattle.fir_expand.proofs.SaturatedSums.{SumSoFar}
use Rattle.fir_expand.proofs.found_leaves.leaves_declared.Given as goal

abbrev pub invariant-loop-found : goal.invariant-loop-found
invariant-loop-found l = SumSoFar (λ xs. sum_of (map leaves_where (map (seen (types_of l.table)) xs))) l.declared l.found-index l.sum
