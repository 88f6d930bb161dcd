use Rattle.std.proofs.Common.{arith, ◌≡◌, List, length, refl, ap, ◌∙◌, sym, subst}
use Rattle.std.proofs.lemmas.Option.{slice_get_read}
use Rattle.ver_build.specs.declared.places.NodePlace.{NodePlace}
use Rattle.ver_build.proofs.Walk.{NodeLoop, nodes_end, loop_begins, loop_goes_on}
use Rattle.ver_build.proofs.node_places.node_places.Goals as goal

pub loop-read-init : goal.loop-read-init
loop-read-init c =
    subst (λ (rs : List NodePlace). NodeLoop c.args.net.now c.args.table.now c.args.order.now c.in_ok-nodes.nodes.items rs 0 0) (sym c.new-readings.ensures.items)
    (loop_begins c.args.net.now c.args.table.now c.args.order.now c.in_ok-nodes.nodes.items (c.in_ok-nodes.ensures ∙ ap length c.as_slice.ensures))

pub loop-read-preserved : goal.loop-read-preserved
loop-read-preserved c =
    let order = c.args.order.now in
    let here = slice_get_read order (length order) c.loop-read.read-index c.read-item.result refl c.loop-read-test.true c.read-item.is in
    loop_goes_on c.args.net.now c.args.table.now order c.loop-read.nodes.items _ c.loop-read.readings.items _ c.loop-read.read-index c.loop-read.last c.in_ok-last.last
    c.read-item.result c.loop-read-test.true here (omega (arith, c.if-last-gt-MOST.false))
    c.in_ok-last.ensures.near c.in_ok-last.ensures.passed c.loop-read.invariant

pub returns-clause-near : goal.returns-clause-near
returns-clause-near c = c.loop-read.invariant.near

pub returns-clause-placed : goal.returns-clause-placed
returns-clause-placed c =
    λ is.
    let order = c.args.order.now in
    let last : c.loop-read.read-index ≡ length order = omega (arith, c.loop-read.auto.read-index-end, c.loop-read-test.false) in
    nodes_end c.args.net.now c.args.table.now order is c.loop-read.nodes.items c.loop-read.readings.items c.loop-read.read-index c.loop-read.last last
    (c.loop-read.invariant.walk is)
