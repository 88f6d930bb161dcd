use Rattle.std.proofs.Common.{◌+◌, map, drop, refl}
use Rattle.fir_ast.specs.working.Views.{port_of}
use Rattle.fir_ast.specs.working.TypeViews.{type_of}
use Rattle.fir_meaning.specs.Components.{port}
use Rattle.fir_names.proofs.FirstMentions.{views_left}
use Rattle.fir_resolve.proofs.WalkedBlocks.{ports_found, ports_next}
use Rattle.fir_resolve.proofs.module.in_ports.Goals as goal

pub returns-in-Some : goal.returns-in-Some
returns-in-Some c = λ modules before w.
    let ports = c.args.ports.now in
    let p = c.port-item.result in
    let left = views_left port_of ports c.loop-port.port-index p c.loop-port-test.true c.port-item.is in
    ports_found modules c.args.scope.now c.loop-port.scope c.in_typed.new.scope c.in_typed.new.scope before (map port_of ports)
    (map port_of (drop (c.loop-port.port-index + 1) ports)) (port_of p) c.in_ok-fault.field-0 c.in-Some.fault c.in-Some.is
    (λ now held. c.in_ok-fault.ensures modules now (port p.direction (type_of p.ty)) held refl)
    (rw (← left) (c.loop-port.invariant modules before w))

pub loop-port-preserved : goal.loop-port-preserved
loop-port-preserved c = λ modules before w.
    let ports = c.args.ports.now in
    let p = c.port-item.result in
    let left = views_left port_of ports c.loop-port.port-index p c.loop-port-test.true c.port-item.is in
    ports_next modules c.args.scope.now c.loop-port.scope c.in_typed.new.scope before (map port_of ports)
    (map port_of (drop (c.loop-port.port-index + 1) ports)) (port_of p) c.in_ok-fault.field-0 c.in_default.is
    (λ now held. c.in_ok-fault.ensures modules now (port p.direction (type_of p.ty)) held refl)
    (rw (← left) (c.loop-port.invariant modules before w))
