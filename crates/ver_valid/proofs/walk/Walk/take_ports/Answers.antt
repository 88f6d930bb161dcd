use Rattle.std.proofs.Common.{arith}
use Rattle.std.proofs.Common.{take}
use Rattle.ver_valid.specs.working.Walks.{AreNextPorts, IsNextPort, Reflects, with_ports}
use Rattle.ver_valid.proofs.Judging.{denied_more}
use Rattle.ver_valid.proofs.Steps.{steps_err, amid_first_port, port_next, port_more, ports_done}
use Rattle.ver_valid.proofs.walk.Walk.take_ports.Goals as goal

pub loop-port-init : goal.loop-port-init
loop-port-init c = λ v none r. amid_first_port c.args.self.now v c.args.ports.now r

pub returns-in_err-take_port : goal.returns-in_err-take_port
returns-in_err-take_port c =
    λ v none r.
    let amid = c.loop-port.invariant v none r in
    let before = with_ports v (take c.loop-port.port-index c.args.ports.now) in
    steps_err c.from_residual.result _ (AreNextPorts v c.args.ports.now) (Reflects c.take_port.new.self (with_ports v c.args.ports.now)) c.from_residual.ensures.1
    (denied_more _ (IsNextPort before c.port-item.result) (AreNextPorts v c.args.ports.now)
    (port_next c.loop-port.self c.take_port.new.self v c.args.ports.now c.loop-port.port-index amid c.port-item.result c.loop-port-test.true c.port-item.is)
    (c.in_err-take_port.ensures before none amid.known))

pub loop-port-preserved : goal.loop-port-preserved
loop-port-preserved c =
    λ v none r.
    let amid = c.loop-port.invariant v none r in
    let before = with_ports v (take c.loop-port.port-index c.args.ports.now) in
    let next = c.in_ok-take_port.ensures before none amid.known in
    port_more c.loop-port.self c.take_port.new.self v c.args.ports.now c.loop-port.port-index amid c.port-item.result c.loop-port-test.true c.port-item.is
    next.0 next.1

pub returns : goal.returns
returns c =
    λ v none r. ports_done c.loop-port.self c.loop-port.self v c.args.ports.now c.loop-port.port-index (c.loop-port.invariant v none r) (omega arith)
