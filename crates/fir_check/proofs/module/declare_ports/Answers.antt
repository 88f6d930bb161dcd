use Rattle.fir_check.proofs.ModuleWalks.{ports_first, ports_next, ports_passed}
use Rattle.fir_check.proofs.module.declare_ports.Goals as goal

pub loop-port-init : goal.loop-port-init
loop-port-init c = ports_first c.args.scope.now

pub loop-port-preserved : goal.loop-port-preserved
loop-port-preserved c =
    ports_next c.args.scope.now c.loop-port.scope c.declare.new.self c.args.ports.now c.loop-port.port-index c.port-item.result c.loop-port-test.true c.port-item.is
    c.loop-port.invariant c.in_ok-declare.ensures

pub returns : goal.returns
returns c = ports_passed c.args.scope.now c.loop-port.scope c.args.ports.now c.loop-port.port-index c.loop-port-test.false c.loop-port.invariant
