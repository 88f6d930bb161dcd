use Rattle.std.proofs.Common.{◌∙◌, refl}
use Rattle.std.proofs.lemmas.Result.{IfOk-weaker}
use Rattle.fir_whens.specs.working.CoveredModules.{depths_of}
use Rattle.fir_whens.specs.working.ModuleNets.{registers_of, types_of_leaves}
use Rattle.fir_whens.proofs.ModuleRoles.{drivers_read, entries_read, net_is, roles_read}
use Rattle.fir_whens.proofs.module_net.put_module.Goals as goal

pub returns : goal.returns
returns c =
    let m = c.args.part.now in
    let bounds = c.in_ok-bounds.bounds.items in
    let drivers = c.in_ok-drivers.drivers.items in
    IfOk-weaker c.net_roles.result _ _
    (λ roles are meant has typed.
    net_is m meant has typed (record { nodes = c.put_drivers.new.nodes; roles = roles }) c.add_zero.new.net c.lower_nodes.new.net c.in_ok-nothing.nothing
    bounds drivers c.in_ok-nothing.ensures.stands c.in_ok-bounds.ensures.below.0
    (entries_read c.deref.result.now (types_of_leaves m) c.deref-2.result.now m.nodes.items c.lower_nodes.new.net bounds
    (c.deref.ensures.value ∙ c.in_ok-types.ensures) c.deref-2.ensures.value c.in_ok-bounds.ensures.stand)
    c.in_ok-drivers.ensures.grows
    (drivers_read c.deref-3.result.now (types_of_leaves m) (depths_of m) (depths_of m) (registers_of m) (registers_of m) m.nodes.items m.nodes.items
    c.deref-4.result.now bounds m.body.items m.body.items c.lower_nodes.new.net c.put_drivers.new.nodes drivers
    (c.deref-3.ensures.value ∙ c.in_ok-types.ensures) refl refl refl c.deref-4.ensures.value refl c.in_ok-drivers.ensures.are)
    (roles_read c.deref-5.result.now m.nodes.items c.deref-6.result.now bounds c.in_ok-nothing.nothing c.deref-7.result.now drivers c.deref-8.result.now
    m.leaves.items roles.items c.deref-5.ensures.value c.deref-6.ensures.value c.deref-7.ensures.value c.deref-8.ensures.value are))
    c.net_roles.ensures
