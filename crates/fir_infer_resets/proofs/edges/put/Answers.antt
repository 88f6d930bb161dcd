use Rattle.std.proofs.Common.{length, refl}
use Rattle.std.proofs.lemmas.Option.{slice_get_read}
use Rattle.fir_infer_resets.proofs.AddedEdges.{adds_one}
use Rattle.fir_infer_resets.proofs.edges.put.Goals as goal

pub returns-in_ok-push : goal.returns-in_ok-push
returns-in_ok-push c =
    let graph = c.args.graph.now.items in
    adds_one graph c.args.one c.args.other c.in-Some.list.now c.push.new.self
    (slice_get_read graph (length graph) c.args.one c.in-Some.list.now refl c.in-Some.ensures.item.3.0 c.in-Some.ensures.value) c.in_ok-push.ensures.items
