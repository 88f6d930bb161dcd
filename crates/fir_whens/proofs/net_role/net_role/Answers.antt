use Rattle.std.proofs.Common.{sym, subst}
use Rattle.fir_leaf_circuit.specs.declared.leaf.LeafRole.{LeafRole}
use Rattle.fir_whens.specs.declared.net_role.NetRole.TheVariants as code
use Rattle.fir_whens.specs.working.StandingRoles.{IsRoleOf}
use Rattle.fir_whens.proofs.ReadRoles.{computed_role, register_role}
use Rattle.fir_whens.proofs.net_role.net_role.Goals as goal

pub returns-in-Computed : goal.returns-in-Computed
returns-in-Computed c =
    let nodes = c.args.nodes.now in
    let bounds = c.args.bounds.now in
    let nothing = c.args.nothing.now in
    let driver = c.args.driver.now in
    subst (λ (role : LeafRole). IsRoleOf nodes bounds nothing driver role (code.Computed c.value_at.result)) (sym c.in-Computed.is)
    (computed_role nodes bounds nothing driver c.in-Computed.node c.value_at.result c.value_at.ensures)

pub returns-in-Register : goal.returns-in-Register
returns-in-Register c =
    let nodes = c.args.nodes.now in
    let bounds = c.args.bounds.now in
    let nothing = c.args.nothing.now in
    let driver = c.args.driver.now in
    let clock = c.value_at-clock.result in
    let reset = c.net_reset.result in
    subst (λ (role : LeafRole). IsRoleOf nodes bounds nothing driver role (code.Register clock reset driver)) (sym c.in-Register.is)
    (register_role nodes bounds nothing driver c.in-Register.clock c.in-Register.reset clock reset c.value_at-clock.ensures c.net_reset.ensures)
