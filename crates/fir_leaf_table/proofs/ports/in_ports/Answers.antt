use Rattle.std.proofs.Common.{◌+◌, [], ◌∷◌, map, drop, ap, arith}
use Rattle.std.proofs.lemmas.List.{drop_all}
use Rattle.fir_ast.specs.working.Views.{port_of}
use Rattle.fir_names.proofs.FirstMentions.{views_left}
use Rattle.fir_leaf_table.proofs.PortWalks.{AtPorts, port_begins, port_enters, port_next, ports_passed}
use Rattle.fir_leaf_table.proofs.ports.in_ports.Goals as goal

pub loop-port-preserved : goal.loop-port-preserved
loop-port-preserved c = λ circuit s before nodes rest enters begins.
    let f = c.args.frame.now in
    let ports = map port_of c.args.ports.now in
    let i = c.loop-port.port-index in
    let p = port_of c.port-item.result in
    let left = map port_of (drop (i + 1) c.args.ports.now) in
    let views = views_left port_of c.args.ports.now i c.port-item.result c.loop-port-test.true c.port-item.is in
    let old = c.args.walk.now in
    let walk = c.loop-port.walk in
    let a : AtPorts s before nodes rest ports (p ∷ left) old walk =
    rw (← views) (c.loop-port.invariant circuit s before nodes rest enters begins) in
    port_next f circuit s before nodes rest ports old enters walk p left a c.in_port.new.walk
    (c.in_ok-in_port.ensures circuit s a.now nodes rest (port_enters f circuit s before nodes rest ports old enters walk p left a)
    (port_begins f circuit s before nodes rest ports old enters walk p left a _ begins))

pub returns : goal.returns
returns c = λ circuit s before nodes rest enters begins.
    let ports = map port_of c.args.ports.now in
    let old = c.args.walk.now in
    let walk = c.loop-port.walk in
    let none = drop_all c.loop-port.port-index c.args.ports.now (omega arith) in
    let a : AtPorts s before nodes rest ports [] old walk =
    rw (← ap (map port_of) none) (c.loop-port.invariant circuit s before nodes rest enters begins) in
    ports_passed c.args.frame.now circuit s before nodes rest ports old enters walk a
