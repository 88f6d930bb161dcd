use Rattle.std.proofs.Common.{◌≡◌, [], ◌∷◌, ◌++◌, get_or, map, sym, ap, ◌∙◌}
use Rattle.std.proofs.lemmas.List.{map_more, take_all}
use Rattle.fir_drivers.specs.working.Slots.{slot_at}
use Rattle.fir_drivers.proofs.slots.slots_of.Goals as goal

pub loop-leaf-preserved : goal.loop-leaf-preserved
loop-leaf-preserved c =
    let slot = slot_at c.args.slots.now c.args.nothing.now in
    let leaves = c.args.leaves.now in
    let k = c.loop-leaf.leaf-index in
    let here : c.slot_at.result ≡ slot (get_or leaves k 0) = c.slot_at.ensures in
    c.in_ok-push.ensures.items ∙ (λ j. c.loop-leaf.invariant j ++ here j ∷ []) ∙ sym (map_more slot leaves k 0 c.loop-leaf-test.true)

pub returns : goal.returns
returns c =
    let slot = slot_at c.args.slots.now c.args.nothing.now in
    c.loop-leaf.invariant ∙ ap (map slot) (take_all c.loop-leaf.leaf-index c.args.leaves.now c.loop-leaf-test.false)
