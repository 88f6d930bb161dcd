use Rattle.std.proofs.Common.{◌≡◌, ◌++◌, map, drop}
use Rattle.ver_sim.specs.working.Orders.{drivers_of}
use Rattle.ver_sim.specs.working.Works.{work_places}
use Rattle.ver_sim.proofs.order.sources_by.Given as goal

abbrev pub invariant-loop-task : goal.invariant-loop-task
invariant-loop-task l =
    l.found.items ++ map (λ t. drivers_of l.drivers (work_places t.work)) (drop l.task-index l.tasks) ≡ map (λ t. drivers_of l.drivers (work_places t.work)) l.tasks
