use Rattle.std.proofs.Common.{arith, ◌≡◌, length, refl, subst, ap, ◌∙◌}
use Rattle.std.proofs.lemmas.Option.{slice_get_read}
use Rattle.ver_build.proofs.LeafWalk.{LeafWalk, leaves_end, loop_begins, loop_goes_on}
use Rattle.ver_build.proofs.leaf_places.leaf_places.Goals as goal

pub loop-read-init : goal.loop-read-init
loop-read-init c =
    loop_begins c.args.net.now c.args.table.now c.args.order.now c.args.nodes.now c.args.readings.now c.in_ok-places.places.items
    (c.in_ok-places.ensures ∙ ap length c.as_slice.ensures)

pub loop-read-preserved : goal.loop-read-preserved
loop-read-preserved c =
    let order = c.args.order.now in
    let here = slice_get_read order (length order) c.loop-read.read-index c.read-item.result refl c.loop-read-test.true c.read-item.is in
    loop_goes_on c.args.net.now c.args.table.now order c.args.nodes.now c.args.readings.now c.loop-read.places.items _ c.loop-read.read-index c.read-item.result here
    c.in_ok-pass.ensures c.loop-read.invariant

pub returns : goal.returns
returns c =
    λ is.
    let order = c.args.order.now in
    let last : c.loop-read.read-index ≡ length order = omega (arith, c.loop-read.auto.read-index-end, c.loop-read-test.false) in
    leaves_end c.args.net.now c.args.table.now order c.args.nodes.now c.args.readings.now is c.loop-read.places.items
    (subst (LeafWalk c.args.net.now c.args.table.now order c.args.nodes.now c.args.readings.now c.loop-read.places.items) last (c.loop-read.invariant.walk is))
