use Rattle.ver_sim.proofs.ProcessTasks.{reset_put}
use Rattle.ver_sim.proofs.processes.put_reset_task.Goals as goal

pub returns-in_ok-push : goal.returns-in_ok-push
returns-in_ok-push c v k m =
    reset_put v c.args.item.now c.in-Resetting.block c.reset_task.result c.args.out.now.items c.push.new.self.items c.in-Resetting.is m
    (λ i. c.reset_task.ensures v k i) c.in_ok-push.ensures.items
