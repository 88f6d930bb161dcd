use Rattle.std.proofs.Common.{◌≡◌, ◌-◌, ◌<◌, ℕ, suc, length, List, Some, ap, ap₂, sym, ◌∙◌, refl, subst, arith}
use Rattle.std.specs.Prelude.{slice_get}
use Rattle.std.proofs.lemmas.Option.{slice_get_read}
use Rattle.fir_net.specs.declared.array.Array.{Array}
use Rattle.fir_net.specs.declared.leaf.Leaf.{Leaf}
use Rattle.fir_drop_dead.specs.working.Marks.{Marked, marked_all, no_marks}
use Rattle.fir_drop_dead.specs.working.Needed.{arrays_reads, root_reads}
use Rattle.fir_drop_dead.proofs.MarkedBehind.{Behind, behind_all, behind_more, behind_none, behind_skip}
use Rattle.fir_drop_dead.proofs.NeededRoots.{HasRoots, has_roots}
use Rattle.fir_drop_dead.proofs.needed.needed.Goals as goal

pub loop-place-init : goal.loop-place-init
loop-place-init c =
    let net = c.args.net.now in
    let none : c.in_ok-marks.marks ≡ no_marks (length net.leaves) (length net.nodes) =
    c.in_ok-marks.ensures ∙ ap₂ no_marks (ap length c.as_slice-leaves.ensures) (ap length c.as_slice.ensures) in
    let first : c.mark_roots.new.marks ≡ marked_all (root_reads 0 net.leaves) (no_marks (length net.leaves) (length net.nodes)) =
    c.mark_roots.ensures ∙ ap₂ (λ (ls : List Leaf) (m : Marked). marked_all (root_reads 0 ls) m) c.as_slice-leaves.ensures none in
    let both = c.mark_writes_of.ensures ∙ ap₂ (λ (bs : List Array) (m : Marked). marked_all (arrays_reads bs) m) c.as_slice-2.ensures first in
    behind_none net c.args.order.now c.mark_writes_of.new.marks (subst (HasRoots net) (sym both) (has_roots net c.requires.whole))

pub loop-place-preserved-then-has : goal.loop-place-preserved-then-has
loop-place-preserved-then-has c =
    let net = c.args.net.now in
    let order = c.args.order.now in
    let i = c.loop-place.place - 1 in
    let v = c.index-order-place.result in
    let m = c.loop-place.marks in
    let within : i < length order = omega (arith, c.loop-place.auto.place, c.loop-place-test.true) in
    let above : c.loop-place.place ≡ suc i = omega (arith, c.loop-place-test.true) in
    let at : slice_get order i ≡ Some v = slice_get_read order (length order) i v refl within c.index-order-place.is in
    rw c.mark_reads.ensures
    (behind_more net order m i v at (subst (λ (j : ℕ). Behind net order j m) above c.loop-place.invariant) c.requires.whole c.requires.ordered
    (sym c.has.ensures ∙ c.if-has.true))

pub loop-place-preserved : goal.loop-place-preserved
loop-place-preserved c =
    let net = c.args.net.now in
    let order = c.args.order.now in
    let i = c.loop-place.place - 1 in
    let v = c.index-order-place.result in
    let m = c.loop-place.marks in
    let within : i < length order = omega (arith, c.loop-place.auto.place, c.loop-place-test.true) in
    let above : c.loop-place.place ≡ suc i = omega (arith, c.loop-place-test.true) in
    let at : slice_get order i ≡ Some v = slice_get_read order (length order) i v refl within c.index-order-place.is in
    behind_skip net order m i v at (subst (λ (j : ℕ). Behind net order j m) above c.loop-place.invariant) (sym c.has.ensures ∙ c.if-has.false)

pub returns : goal.returns
returns c =
    let net = c.args.net.now in
    let order = c.args.order.now in
    let m = c.loop-place.marks in
    let front : c.loop-place.place ≡ 0 = omega (arith, c.loop-place-test.false) in
    behind_all net order c.requires.ordered m (subst (λ (j : ℕ). Behind net order j m) front c.loop-place.invariant)
