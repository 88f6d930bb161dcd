use Rattle.std.proofs.Common.{[], ◌∷◌, ◌+◌, ◌++◌, map, drop, ap, arith}
use Rattle.std.proofs.lemmas.List.{drop_all}
use Rattle.fir_ast.specs.working.Views.{port_of}
use Rattle.fir_names.proofs.FirstMentions.{views_left}
use Rattle.fir_infer_widths.proofs.PortWalks.{AtPorts, next_declares, ports_begun, ports_next, ports_passed}
use Rattle.fir_infer_widths.proofs.module.in_ports.Goals as goal

pub loop-port-init : goal.loop-port-init
loop-port-init c = λ k m before meant rules rest enters begins. ports_begun k c.args.ground.now m before meant rules rest (map port_of c.args.ports.now) c.args.walk.now enters

pub loop-port-preserved : goal.loop-port-preserved
loop-port-preserved c = λ k m before meant rules rest enters begins.
    let g = c.args.ground.now in
    let ports = c.args.ports.now in
    let i = c.loop-port.port-index in
    let whole = map port_of ports in
    let p = port_of c.port-item.result in
    let left = map port_of (drop (i + 1) ports) in
    let views = views_left port_of ports i c.port-item.result c.loop-port-test.true c.port-item.is in
    let a : AtPorts k g m before meant rules rest whole (p ∷ left) c.args.walk.now c.loop-port.walk = rw (← views) (c.loop-port.invariant k m before meant rules rest enters begins) in
    ports_next k g m before meant rules rest whole c.args.walk.now enters c.loop-port.walk p left begins a c.in_port.new.walk
    (c.in_ok-in_port.ensures k m a.now (meant ++ a.comes.comes.more) (rules ++ []) rest
    (next_declares k g m before meant rules rest whole c.args.walk.now enters c.loop-port.walk p left begins a))

pub returns : goal.returns
returns c = λ k m before meant rules rest enters begins.
    let whole = map port_of c.args.ports.now in
    let a : AtPorts k c.args.ground.now m before meant rules rest whole [] c.args.walk.now c.loop-port.walk =
    rw (← ap (map port_of) (drop_all c.loop-port.port-index c.args.ports.now (omega arith))) (c.loop-port.invariant k m before meant rules rest enters begins) in
    ports_passed k c.args.ground.now m before meant rules rest whole c.args.walk.now enters c.loop-port.walk a
