use Rattle.ver_sim.proofs.TaskOrders.{source_within}
use Rattle.ver_sim.proofs.order.TaskGraph.new.Goals as goal

pub invariant_of-result : goal.invariant_of-result
invariant_of-result c = record { within = source_within c.args.tasks.now _ c.in_ok-sources.ensures }
