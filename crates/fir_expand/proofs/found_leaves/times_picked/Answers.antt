use Rattle.std.proofs.Common.{◌≡◌, ◌*◌, get_or, refl, ap, ◌∙◌}
use Rattle.std.specs.Prelude.{max}
use Rattle.std.proofs.Math.Nat.{max_comm}
use Rattle.fir_type_table.specs.working.Saturated.{saturated}
use Rattle.fir_types.specs.declared.note.Pick.{Pick}
use Rattle.fir_expand.proofs.SaturatedSums.{product_next}
use Rattle.fir_expand.proofs.found_leaves.times_picked.Goals as goal

pub loop-pick-preserved : goal.loop-pick-preserved
loop-pick-preserved c = λ n is.
    let picks = c.args.picks.now in
    let i = c.loop-pick.pick-index in
    let none : Pick = record { stride = 0; length = 0 } in
    let p = get_or picks i none in
    let count : c.max.result ≡ max 1 p.length = c.max.ensures ∙ max_comm p.length 1 in
    product_next picks i c.loop-pick.product n c.times-product.result p none (c.loop-pick.invariant n is) c.loop-pick-test.true refl
    (λ m same. c.times-product.ensures m same ∙ ap (λ k. saturated (k * m)) count)
