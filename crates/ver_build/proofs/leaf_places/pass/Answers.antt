use Rattle.std.proofs.Common.{◌≡◌, ◌<◌, ◌∙◌, length, option_map, Some, arith, refl, sym, ap}
use Rattle.std.specs.Prelude.{slice_get, slice_set}
use Rattle.std.proofs.lemmas.Option.{slice_get_read}
use Rattle.fir_net_names.specs.working.LeafNamed.{name_at}
use Rattle.ver_build.specs.working.Places.{placed}
use Rattle.ver_build.proofs.leaf_places.pass.Goals as goal

pub returns-in_ok-place-in-Leaf : goal.returns-in_ok-place-in-Leaf
returns-in_ok-place-in-Leaf c =
    let k = c.in-Leaf.k in
    let leaf = c.index-leaves-number.result in
    let leaves = c.as_slice-leaves.result.now in
    let old = c.args.places.now.items in
    let nodes = c.args.nodes.now in
    let readings = c.args.readings.now in
    let name = option_map (λ n. n.now) c.leaf.result in
    let less : c.number-in-Leaf.result < length leaves = omega (arith, c.number.ensures, c.number-in-Leaf.ensures, c.if-number-leaves.true) in
    let here : slice_get c.args.net.now.leaves k ≡ Some leaf =
    ap (λ ls. slice_get ls k) (sym c.as_slice-leaves.ensures) ∙ ap (slice_get leaves) (sym c.number-in-Leaf.ensures)
    ∙ slice_get_read leaves (length leaves) c.number-in-Leaf.result leaf refl less c.index-leaves-number.is in
    let place : c.in_ok-place-in-Leaf.place ≡ placed old nodes readings (name_at c.args.table.now.leaves k) k leaf.signed leaf.width leaf.role =
    c.in_ok-place-in-Leaf.ensures ∙ ap (λ ps. placed ps nodes readings name k leaf.signed leaf.width leaf.role) c.as_slice-leaves-in-Leaf.ensures.value
    ∙ ap (λ n. placed old nodes readings n k leaf.signed leaf.width leaf.role) c.leaf.ensures in
    let written = ap (λ j. slice_set old j c.in_ok-place-in-Leaf.place) c.number-in-Leaf-2.ensures ∙ ap (slice_set old k) place in
    rw c.in-Leaf.is (λ of long. (leaf, here, written))
