use Rattle.std.proofs.Common.{refl, ◌∙◌}
use Rattle.std.proofs.lemmas.Result.{IfOk-weaker}
use Rattle.fir_whens.specs.working.CoveredModules.{depths_of}
use Rattle.fir_whens.specs.working.ModuleNets.{registers_of}
use Rattle.fir_whens.proofs.ModuleRoles.{drivers_read}
use Rattle.fir_whens.proofs.module_net.put_drivers.Goals as goal

pub returns-clause-grows : goal.returns-clause-grows
returns-clause-grows c = IfOk-weaker c.drivers_of.result _ _ (λ drivers below. below.0) c.drivers_of.ensures.below

pub returns-clause-are : goal.returns-clause-are
returns-clause-are c =
    let m = c.args.part.now in
    let types = c.args.types.now in
    let bounds = c.args.bounds.now in
    IfOk-weaker c.drivers_of.result _ _
    (λ drivers are.
    drivers_read types types c.deref.result.now (depths_of m) c.deref-2.result.now (registers_of m) c.deref-3.result.now m.nodes.items bounds bounds
    c.deref-4.result.now m.body.items c.args.nodes.now c.drivers_of.new.net drivers.items refl (c.deref.ensures.value ∙ c.in_ok-depths.ensures)
    (c.deref-2.ensures.value ∙ c.in_ok-registers.ensures) c.deref-3.ensures.value refl c.deref-4.ensures.value are)
    c.drivers_of.ensures.are
