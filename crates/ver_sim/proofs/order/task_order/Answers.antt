use Rattle.std.proofs.Common.{sym, subst}
use Rattle.ver_sim.specs.working.Orders.{HaveTargets}
use Rattle.ver_sim.proofs.TaskOrders.{no_circle}
use Rattle.ver_sim.proofs.TaskTargets.{have_targets}
use Rattle.ver_sim.proofs.order.task_order.Goals as goal

pub found_order-requires-clause-targets : goal.found_order-requires-clause-targets
found_order-requires-clause-targets c =
    let v = c.requires.0 in
    let know = c.requires.1 in
    subst (HaveTargets c.args.tasks.now) (sym (c.net_count.ensures v know)) (have_targets v know.valid c.args.tasks.now c.requires.2)

pub found_order-requires-clause-acyclic : goal.found_order-requires-clause-acyclic
found_order-requires-clause-acyclic c =
    let v = c.requires.0 in
    let know = c.requires.1 in
    no_circle v know.valid c.args.tasks.now c.requires.2
