use Rattle.std.proofs.Common.{map}
use Rattle.ver_ast.specs.Nets.{assigns, resets}
use Rattle.ver_ast.specs.Processes.{assigning, showing}
use Rattle.ver_sim.specs.working.Tasks.{IsTaskOf}
use Rattle.ver_sim.proofs.PairLists.{then_more, all_more}
use Rattle.ver_sim.proofs.processes.tasks.Goals as goal

pub returns : goal.returns
returns c =
    let v = c.args.v.now in
    all_more (IsTaskOf v) _ _ _ c.new-found.ensures.items
    (then_more (IsTaskOf v) _ _ _ (map assigning (assigns v)) (map showing (resets v)) c.in_ok-put_assign_tasks.ensures c.in_ok-put_reset_tasks.ensures)
