use Rattle.ver_sim.proofs.ProcessTasks.{assign_is}
use Rattle.ver_sim.proofs.processes.assign_task.Goals as goal

pub returns : goal.returns
returns c v k m =
    assign_is v c.args.tables.now k c.args.assign.now m c.place-target.result c.width-width.result c.in_ok-work.work c.place-target.ensures c.width-width.ensures c.in_ok-work.ensures
