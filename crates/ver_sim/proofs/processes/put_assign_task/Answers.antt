use Rattle.std.proofs.Common.{sym, ◌∙◌}
use Rattle.ver_sim.proofs.ProcessTasks.{assign_put}
use Rattle.ver_sim.proofs.processes.put_assign_task.Goals as goal

pub returns-in_ok-push : goal.returns-in_ok-push
returns-in_ok-push c v k m =
    assign_put v c.args.item.now c.in-Assign.assign c.in_ok-task.task c.args.out.now.items c.push.new.self.items c.in-Assign.is
    (sym (c.is_clock_output.ensures v k) ∙ c.if-not-is_clock_output.true) m
    (λ i. c.in_ok-task.ensures v k i) c.in_ok-push.ensures.items
