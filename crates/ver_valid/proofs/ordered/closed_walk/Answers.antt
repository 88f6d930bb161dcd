use Rattle.ver_valid.proofs.ProcessReads.{edges}
use Rattle.ver_valid.proofs.ProcessOrders.{circle_given, no_order, order_given}
use Rattle.ver_valid.proofs.ordered.closed_walk.Goals as goal

pub returns-in-Ok : goal.returns-in-Ok
returns-in-Ok c =
    let graph = c.in_ok-graph.graph.targets.items in
    let e = edges c.args.v.now graph c.in_ok-graph.ensures in
    order_given c.args.v.now graph e c.requires.distinct c.requires.known c.in-Ok.field-0.items c.in-Ok.ensures.ok

pub returns-in-Err-Fault : goal.returns-in-Err-Fault
returns-in-Err-Fault c =
    let graph = c.in_ok-graph.graph.targets.items in
    let e = edges c.args.v.now graph c.in_ok-graph.ensures in
    let circle = c.in-Err-Fault.circle in
    let turns = rw c.in-Err-Fault.field-0-is at c.in-Err-Fault.ensures.fault in
    (circle_given c.args.v.now graph e c.requires.distinct circle turns, no_order c.args.v.now graph e c.requires.distinct circle turns)
