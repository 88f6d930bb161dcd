use Rattle.std.proofs.Common.{ap}
use Rattle.ver_sim.specs.declared.declarations.Span.{Span}
use Rattle.ver_sim.proofs.BlockForms.{plain_is}
use Rattle.ver_sim.proofs.ProcessTasks.{register_named}
use Rattle.ver_sim.proofs.block_tasks.plain_task.Goals as goal

pub returns : goal.returns
returns c v k p =
    let b = c.args.block.now in
    plain_is v b p c.span-word.result.base c.in_ok-edge.edge (ap (λ (s : Span). s.base) (c.span-word.ensures v k (register_named v b.target p.width p.register)))
    (c.in_ok-edge.ensures v k p.clocked p.wide.operand.sound)
