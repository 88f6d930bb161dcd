use Rattle.std.proofs.Common.{drop}
use Rattle.fir_type_table.specs.working.Tables.{types_of}
use Rattle.fir_types.specs.working.FirstLeaves.{component_at}
use Rattle.fir_types.proofs.LeafWalks.{LeavesSoFar}
use Rattle.fir_types.proofs.leaf_numbers.in_module.Given as goal

abbrev pub invariant-loop-position : goal.invariant-loop-position
invariant-loop-position l =
    LeavesSoFar (component_at l.names) (types_of l.table) l.starts l.declared l.initial.next l.position (drop l.position l.declared) l.next l.leaves.items
