use Rattle.std.proofs.Common.{◌≡◌, [], ◌∷◌, ◌++◌, get_or, map, sym, ap, ◌∙◌}
use Rattle.std.proofs.lemmas.List.{map_more, take_all}
use Rattle.fir_merge.specs.working.Entries.{value_in}
use Rattle.fir_merge.proofs.lower.values_at.Goals as goal

pub loop-place-preserved : goal.loop-place-preserved
loop-place-preserved c =
    let value = value_in c.args.nodes.now c.args.bounds.now c.args.nothing.now in
    let places = c.args.places.now in
    let k = c.loop-place.place-index in
    let here : c.value_at.result ≡ value (get_or places k 0) = c.value_at.ensures in
    c.in_ok-push.ensures.items ∙ (λ j. c.loop-place.invariant j ++ here j ∷ []) ∙ sym (map_more value places k 0 c.loop-place-test.true)

pub returns : goal.returns
returns c =
    let value = value_in c.args.nodes.now c.args.bounds.now c.args.nothing.now in
    c.loop-place.invariant ∙ ap (map value) (take_all c.loop-place.place-index c.args.places.now c.loop-place-test.false)
