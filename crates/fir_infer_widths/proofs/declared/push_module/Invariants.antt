use Rattle.fir_type_table.specs.working.Tables.{types_of}
use Rattle.fir_types.specs.working.FirstLeaves.{component_at}
use Rattle.fir_infer_widths.proofs.PushedWalks.{PushesSoFar, all_declared, declared_left}
use Rattle.fir_infer_widths.proofs.declared.push_module.Given as goal

abbrev pub invariant-loop-position : goal.invariant-loop-position
invariant-loop-position l =
    PushesSoFar (all_declared (types_of l.table) l.stage (component_at l.names) l.declared)
    (declared_left (types_of l.table) l.stage (component_at l.names) l.declared l.position) l.initial.arena l.arena
