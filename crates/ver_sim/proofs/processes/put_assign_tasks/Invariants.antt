use Rattle.std.proofs.Common.{map, flat_map, take}
use Rattle.ver_ast.specs.Nets.{item_assign, output_clocks}
use Rattle.ver_ast.specs.Processes.{assigning}
use Rattle.ver_sim.specs.working.Pairs.{Appends}
use Rattle.ver_sim.specs.working.Tasks.{IsTaskOf}
use Rattle.ver_sim.proofs.processes.put_assign_tasks.Given as goal

abbrev pub invariant-loop-item : goal.invariant-loop-item
invariant-loop-item l =
    Appends (IsTaskOf l.v) l.initial.out.items l.out.items (flat_map (λ i. map assigning (item_assign (output_clocks l.v) i)) (take l.item-index l.item-items))
