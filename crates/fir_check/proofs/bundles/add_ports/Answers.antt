use Rattle.std.proofs.Common.{refl}
use Rattle.std.proofs.lemmas.Result.{IfOk-weaker}
use Rattle.fir_check.proofs.PortBundles.{made_all, made_more, made_none}
use Rattle.fir_check.proofs.bundles.add_ports.Goals as goal

pub loop-port-init : goal.loop-port-init
loop-port-init c = made_none c.args.table.now c.args.ports.now c.new-parts.result.items c.new-parts.ensures.items

pub loop-port-preserved : goal.loop-port-preserved
loop-port-preserved c =
    let p = c.port-item.result in
    made_more c.args.table.now c.loop-port.table c.add.new.self c.args.ports.now c.loop-port.port-index p c.loop-port.parts.items c.push.new.self.items
    (record { place = p.ident.place; flip = c.is_input.result; name = c.in_ok-copy.field-0; type_place = p.type_place; ty = c.in_ok-add.field-0 })
    c.loop-port-test.true c.port-item.is c.loop-port.invariant c.in_ok-add.ensures refl c.is_input.ensures c.in_ok-copy.ensures refl
    c.in_ok-push.ensures.items

pub returns : goal.returns
returns c =
    IfOk-weaker c.add_bundle.result _ _
    (λ id adds.
    made_all c.args.table.now c.loop-port.table c.add_bundle.new.self c.args.ports.now c.loop-port.port-index id.number c.loop-port.parts.items
    c.loop-port-test.false c.loop-port.invariant adds)
    c.add_bundle.ensures
