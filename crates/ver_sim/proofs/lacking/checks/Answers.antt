use Rattle.std.proofs.Common.{◌≡◌, ◌<◌, ◌≤◌, List, length, get_or, sym, ap, ◌∙◌, subst}
use Rattle.std.specs.Prelude.{Some, slice_get}
use Rattle.ver_ast.specs.declared.place.VPlace.{VPlace}
use Rattle.ver_ast.specs.declared.tree.Item.{Item}
use Rattle.ver_places.specs.ItemPlaces.{item_place}
use Rattle.ver_sim.specs.working.Checks.{AreChecks}
use Rattle.ver_sim.proofs.LackingItems.{no_checks, checks_more}
use Rattle.ver_sim.proofs.PairLists.{in_at, take_whole}
use Rattle.ver_sim.proofs.lacking.checks.Goals as goal

pub loop-i-init : goal.loop-i-init
loop-i-init c = no_checks c.args.v.now _ c.new-found.ensures.items

pub loop-i-preserved : goal.loop-i-preserved
loop-i-preserved c =
    let v = c.args.v.now in
    let i = c.loop-i.i in
    let item = c.item-item.result in
    let within = subst (λ (xs : List Item). i < length xs) c.as_slice-item-items.ensures c.loop-i-test.true in
    let is = subst (λ (xs : List Item). item ≡ get_or xs i item) c.as_slice-item-items.ensures c.item-item.is in
    let place = c.start_of-place.result in
    let same : Some place ≡ Some (item_place v i) = sym c.start_of-place.ensures ∙ ap (λ (ps : List VPlace). slice_get ps i) c.as_slice.ensures ∙ c.in_ok-starts.ensures.starts i within in
    let start : place ≡ item_place v i = cc in
    checks_more v c.loop-i.found.items c.put_check.new.out.items v.items i item place within is start c.loop-i.invariant (c.in_ok-put_check.ensures v c.requires (in_at v.items i item within is))

pub returns : goal.returns
returns c =
    let v = c.args.v.now in
    let all = subst (λ (xs : List Item). length xs ≤ c.loop-i.i) c.as_slice-item-items.ensures c.loop-i-test.false in
    subst (AreChecks v c.loop-i.found.items) (take_whole v.items c.loop-i.i all) c.loop-i.invariant
