use Rattle.std.proofs.Common.{◌≡◌, ℕ, List, get_or, ◌<◌, ◌∷◌, ◌+◌, length, map, drop, None, Some, sym, ap, subst, ◌∙◌, arith, rules}
use Rattle.std.specs.Prelude.{slice_get}
use Rattle.std.proofs.lemmas.List.{drop_more}
use Rattle.std.proofs.lemmas.Option.{slice_get-get_or}
use Rattle.fir_net.specs.declared.array.Array.{Array}
use Rattle.fir_net.specs.Paths.{base_name}
use Rattle.fir_net_names.specs.working.NameSets.{TakesName}
use Rattle.fir_net_names.proofs.NamedArrays.{NamedArrays, arrays_more, arrays_none, order_within}
use Rattle.fir_net_names.proofs.array_names.array_names.Goals as goal

pub loop-array-init : goal.loop-array-init
loop-array-init c =
    arrays_none c.args.net.now c.args.taken.now.names c.in_ok-names.names.items (c.in_ok-names.ensures ∙ ap (λ (xs : List Array). map (λ a. None) xs) c.as_slice-arrays.ensures)

pub bounds-arrays-number : goal.bounds-arrays-number
bounds-arrays-number c =
    let order = c.as_slice-order.result.now in
    let number = get_or order c.loop-array.array-index 0 in
    subst (λ (xs : List Array). number < length xs) (sym c.as_slice-arrays.ensures)
    (order_within c.args.net.now c.requires order c.as_slice-order.ensures c.loop-array.array-index c.loop-array-test.true)

pub offset_bounds-arrays-number : goal.offset_bounds-arrays-number
offset_bounds-arrays-number c =
    let order = c.as_slice-order.result.now in
    let number = get_or order c.loop-array.array-index 0 in
    let within = subst (λ (xs : List Array). number < length xs) (sym c.as_slice-arrays.ensures)
    (order_within c.args.net.now c.requires order c.as_slice-order.ensures c.loop-array.array-index c.loop-array-test.true) in
    search rules

pub index_mut-requires : goal.index_mut-requires
index_mut-requires c =
    let order = c.as_slice-order.result.now in
    let within = order_within c.args.net.now c.requires order c.as_slice-order.ensures c.loop-array.array-index c.loop-array-test.true in
    let count = c.loop-array.invariant.count in
    omega (arith, within, count)

pub loop-array-preserved : goal.loop-array-preserved
loop-array-preserved c =
    let net = c.args.net.now in
    let i = c.loop-array.array-index in
    let first = c.args.taken.now.names in
    let old = c.loop-array.taken.names in
    let new = c.take_name.new.taken.names in
    let names = c.loop-array.names.items in
    let order = c.as_slice-order.result.now in
    let arrays = c.as_slice-arrays.result.now in
    let number = get_or order i 0 in
    let rest = drop (i + 1) net.array_order in
    let next : drop i net.array_order ≡ number ∷ rest =
    subst (λ (ks : List ℕ). drop i ks ≡ number ∷ drop (i + 1) ks) c.as_slice-order.ensures (drop_more order i 0 c.loop-array-test.true) in
    let so_far = subst (λ (left : List ℕ). NamedArrays net first left names old) next c.loop-array.invariant in
    let within = order_within net c.requires order c.as_slice-order.ensures i c.loop-array-test.true in
    let array = c.index-arrays-number.result in
    let read = subst (λ (xs : List Array). array ≡ get_or xs number array) c.as_slice-arrays.ensures c.index-arrays-number.is in
    let at : slice_get net.arrays number ≡ Some array = slice_get-get_or net.arrays number array within ∙ ap Some (sym read) in
    let name = c.in_ok-name.name in
    let takes = subst (λ (a : Array). TakesName old new (base_name a.path) name) (sym c.index-arrays-number.is) c.in_ok-name.ensures in
    arrays_more net c.requires number array rest names first old new name at so_far takes
