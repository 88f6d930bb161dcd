use Rattle.std.proofs.Common.{ap, ◌∙◌}
use Rattle.fir_base.proofs.Members.{in_map}
use Rattle.ver_ast.specs.Nets.{SizedNet, nets}
use Rattle.ver_ast.proofs.Nets.{reg_is_net}
use Rattle.ver_sim.specs.declared.declarations.Span.{Span}
use Rattle.ver_sim.proofs.BlockForms.{resetting_is, sound_edge}
use Rattle.ver_sim.proofs.KnownNames.{net_is_valued}
use Rattle.ver_sim.proofs.ProcessTasks.{register_named}
use Rattle.ver_sim.proofs.ReadForms.{fitting_number}
use Rattle.ver_sim.proofs.block_tasks.resetting_task.Goals as goal

pub returns : goal.returns
returns c v k p =
    let b = c.args.block.now in
    let narrow = (k.valid.narrow b.target b.value.width (reg_is_net v (b.target, b.value.width) p.register)).1 in
    resetting_is v b p c.place-reset.result c.unwrap_or-value.result c.span-word.result.base c.in_ok-edge.edge
    (c.place-reset.ensures v k (net_is_valued v b.reset (in_map (λ (s : SizedNet). s.0) (nets v) (b.reset, 1) p.bit)))
    (c.unwrap_or-value.ensures ∙ fitting_number b.value.number b.value.width narrow p.constant_fits)
    (ap (λ (s : Span). s.base) (c.span-word.ensures v k (register_named v b.target b.value.width p.register)))
    (c.in_ok-edge.ensures v k (sound_edge v b.target b.value.width b.edge p.clocked))
