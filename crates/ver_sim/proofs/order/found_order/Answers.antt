use Rattle.ver_sim.proofs.TaskOrders.{no_turn, order_is}
use Rattle.ver_sim.proofs.order.found_order.Goals as goal

pub returns-in-Ok : goal.returns-in-Ok
returns-in-Ok c = order_is c.args.tasks.now c.in_ok-graph.graph.sources.items c.in_ok-graph.ensures c.in-Ok.order.items c.in-Ok.ensures.ok

pub unreachable-requires : goal.unreachable-requires
unreachable-requires c =
    let circle = rw c.in-Err-Fault.field-0-is at c.in-Err-Fault.ensures.fault in
    no_turn c.args.tasks.now c.in_ok-graph.graph.sources.items c.in_ok-graph.ensures c.requires.acyclic c.in-Err-Fault.field-0-0 circle.turns
