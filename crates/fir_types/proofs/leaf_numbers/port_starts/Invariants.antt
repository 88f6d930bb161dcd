use Rattle.std.proofs.Common.{drop}
use Rattle.fir_type_table.specs.working.Tables.{types_of}
use Rattle.fir_types.specs.working.FirstLeaves.{port_counts}
use Rattle.fir_types.proofs.LeafWalks.{StartsSoFar}
use Rattle.fir_types.proofs.leaf_numbers.port_starts.Given as goal

abbrev pub invariant-loop-id : goal.invariant-loop-id
invariant-loop-id l =
    StartsSoFar (port_counts (types_of l.table) l.bundles) (port_counts (types_of l.table) (drop l.id-index l.bundles)) l.starts.items l.next
