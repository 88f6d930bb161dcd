use Rattle.std.proofs.Common.{subst, take_all}
use Rattle.fir_memory_clocks.specs.working.PortClocks.{HasRootIn}
use Rattle.fir_memory_clocks.proofs.PortSearch.{IsFound, all_same, one_more, one_other, root_once}
use Rattle.fir_memory_clocks.proofs.two_clocks.two_clocks.Goals as goal

pub loop-port-preserved : goal.loop-port-preserved
loop-port-preserved c =
    rw c.first_of-first.ensures
    (one_more (HasRootIn c.args.roots.now) c.args.ports.now c.loop-port.port-index 0 c.loop-port-test.true c.loop-port.first
    c.root_at-root.result c.loop-port.invariant c.root_at-root.ensures (rw c.in_default.is at c.differing.ensures))

pub returns-in-Some : goal.returns-in-Some
returns-in-Some c =
    let t = c.in-Some.clocks in
    let d = rw c.in-Some.is at c.differing.ensures in
    one_other (HasRootIn c.args.roots.now) c.args.ports.now c.loop-port.port-index 0 c.loop-port-test.true c.loop-port.first
    c.root_at-root.result t.clock t.other_clock c.loop-port.invariant c.root_at-root.ensures d.0 d.1 d.2

pub returns : goal.returns
returns c =
    let all = take_all c.loop-port.port-index c.args.ports.now c.loop-port-test.false in
    all_same (HasRootIn c.args.roots.now) (root_once c.args.roots.now) c.args.ports.now c.loop-port.first
    (subst (λ ys. IsFound (HasRootIn c.args.roots.now) ys c.loop-port.first) all c.loop-port.invariant)
