use Rattle.std.proofs.Common.{Some, ap, ◌∙◌, refl}
use Rattle.std.proofs.lemmas.Option.{slice_get-get_or, slice_get_read}
use Rattle.fir_graph.proofs.Seeing.{seen_more, seen_all}
use Rattle.fir_graph.proofs.circle_check.are_distinct.Goals as goal

pub loop-vertex-preserved : goal.loop-vertex-preserved
loop-vertex-preserved c =
    seen_more _ _ _ _ _ c.loop-vertex.invariant (slice_get-get_or _ _ 0 c.loop-vertex-test.true) (slice_get_read _ c.len.result _ _ (c.len.ensures ∙ c.loop-vertex.met.ok.0) c.if-vertex-len.false c.index.ensures ∙ ap Some c.if-index.false) refl

pub returns : goal.returns
returns c = λ _. seen_all _ _ _ c.loop-vertex.invariant c.loop-vertex-test.false
