use Rattle.std.proofs.Common.{[], ◌∷◌, ◌++◌, sym, ap, ap₂, ◌∙◌}
use Rattle.std.proofs.lemmas.List.{map_more}
use Rattle.fir_flatten.specs.working.KeptNodes.{moved}
use Rattle.fir_flatten.proofs.kept_nodes.renumbered.Goals as goal

pub loop-read-preserved : goal.loop-read-preserved
loop-read-preserved c =
    let places = c.args.places.now in
    c.in_ok-push.ensures ∙ ap₂ (λ reads read. reads ++ read ∷ []) c.loop-read.invariant (c.moved.ensures ∙ ap (moved places) c.read-item.is)
    ∙ sym (map_more (moved places) c.args.reads.now c.loop-read.read-index c.read-item.result c.loop-read-test.true)
