use Rattle.std.proofs.Common.{List, refl, sym, subst}
use Rattle.ver_ast.specs.Processes.{processes}
use Rattle.ver_sim.specs.declared.task.Task.{Task}
use Rattle.ver_sim.specs.working.Orders.{IsTaskOrder}
use Rattle.ver_sim.specs.working.Tasks.{AreTasks}
use Rattle.ver_sim.proofs.ProcessTasks.{tasks_are}
use Rattle.ver_sim.proofs.plan.Plan.new.Goals as goal

pub task_order-requires : goal.task_order-requires
task_order-requires c =
    let v = c.args.v.now in
    (v, c.requires, subst (AreTasks v) (sym c.as_slice.ensures.value) (tasks_are v c.in_ok-tasks.tasks.items (processes v) c.in_ok-tasks.ensures refl))

pub returns : goal.returns
returns c = record {
  tasks_are = tasks_are c.args.v.now _ (processes c.args.v.now) c.in_ok-tasks.ensures refl;
  order_is = subst (λ (ts : List Task). IsTaskOrder ts c.in_ok-order.order.items) c.as_slice.ensures.value c.in_ok-order.ensures;
  blocks_are = c.in_ok-blocks.ensures;
  shown_are = c.in_ok-shown.ensures;
  inputs_are = c.in_ok-inputs.ensures;
  outputs_are = c.in_ok-outputs.ensures;
  checks_are = c.in_ok-checks.ensures;
}
