use Rattle.fir_loop.proofs.Loops.{no_loop}
use Rattle.fir_loop.proofs.Reading.{order_shown, circle_shown}
use Rattle.fir_loop.proofs.ordering.order.Goals as goal

pub loop_fault-requires-clause-circle : goal.loop_fault-requires-clause-circle
loop_fault-requires-clause-circle c =
    rw c.as_slice-in-Err-Fault-2.ensures.value
    (circle_shown c.args.net.now c.requires c.new-graph.result.net.now _ _ _ c.new-graph.ensures (rw c.in-Err-Fault.field-0-is at c.in-Err-Fault.ensures.fault) c.as_slice-in-Err-Fault.ensures c.in_ok-circle-in-Err-Fault.ensures)

pub returns-in_ok-reads-in-Ok : goal.returns-in_ok-reads-in-Ok
returns-in_ok-reads-in-Ok c =
    let ordered = order_shown c.args.net.now c.requires c.new-graph.result.net.now _ _ _ c.new-graph.ensures c.in-Ok.ensures.ok c.as_slice.ensures.value c.in_ok-reads-in-Ok.ensures in
    rw c.from_vec.ensures (record { order = ordered; one = c.ordered_has_one.ensures _ _ c.requires ordered; no_loop = no_loop _ _ ordered })
