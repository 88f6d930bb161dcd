use Rattle.std.proofs.Common.{◌<◌, length, refl, arith}
use Rattle.std.proofs.lemmas.Option.{slice_get_read}
use Rattle.fir_fold.proofs.Steps.{can_pass, step}
use Rattle.fir_fold.proofs.walk.walked.Goals as goal

pub pass-requires-clause-vertex : goal.pass-requires-clause-vertex
pass-requires-clause-vertex c =
    let order = c.args.order.now in
    let i = c.loop-vertex.vertex-index in
    let low : i < length order = omega arith in
    can_pass c.args.net.now order c.requires.ordered c.requires.whole i c.loop-vertex.walk c.loop-vertex.invariant c.vertex-item.result
    (slice_get_read order (length order) i c.vertex-item.result refl low c.vertex-item.is)

pub loop-vertex-preserved : goal.loop-vertex-preserved
loop-vertex-preserved c =
    let order = c.args.order.now in
    let i = c.loop-vertex.vertex-index in
    let low : i < length order = omega arith in
    step c.args.net.now order c.requires.ordered c.requires.whole i c.loop-vertex.walk c.loop-vertex.invariant c.vertex-item.result c.pass.new.self
    (slice_get_read order (length order) i c.vertex-item.result refl low c.vertex-item.is) c.in_ok-pass.ensures
