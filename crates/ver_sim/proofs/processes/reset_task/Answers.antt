use Rattle.ver_sim.proofs.ProcessTasks.{reset_is}
use Rattle.ver_sim.proofs.processes.reset_task.Goals as goal

pub returns : goal.returns
returns c v k m =
    reset_is v c.args.tables.now k c.args.block.now m c.place-2.result c.place.result c.unwrap_or.result c.span.result c.place-2.ensures c.place.ensures c.unwrap_or.ensures c.span.ensures
