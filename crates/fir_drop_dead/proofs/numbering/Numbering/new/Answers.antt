use Rattle.std.proofs.Common.{◌≡◌, Bool, List, true, false, get_or, Some, ap, sym, ◌∙◌, arith}
use Rattle.std.specs.Prelude.{slice_get}
use Rattle.std.proofs.lemmas.Option.{slice_get-get_or}
use Rattle.fir_drop_dead.proofs.PlacesSoFar.{no_places, one_place}
use Rattle.fir_drop_dead.proofs.numbering.Numbering.new.Goals as goal
use Rattle.fir_drop_dead.proofs.numbering.Numbering.new.Goals.{then-mark, else-mark}

pub loop-mark-init : goal.loop-mark-init
loop-mark-init c = no_places c.args.marks.items c.in_ok-places.places.items c.in_ok-places.ensures.items

pub loop-mark-preserved : goal.loop-mark-preserved
loop-mark-preserved c =
    let xs = c.as_slice-mark-items.result.now in
    let i = c.loop-mark.mark-index in
    let so = c.loop-mark.invariant in
    let at : slice_get c.args.marks.items i ≡ Some (get_or xs i false) =
    ap (λ (ms : List Bool). slice_get ms i) (sym c.as_slice-mark-items.ensures.value) ∙ slice_get-get_or xs i false c.loop-mark-test.true in
    rw c.in_ok-push.ensures.items
    (elim c.if-mark.branch [
      | then-mark w ↦
          one_place c.args.marks.items i c.loop-mark.count c.if-mark.count c.loop-mark.places.items true (at ∙ ap Some w.if-mark.true) (omega (arith, w.count-is))
          (omega (arith, w.count-is, so.few)) so
      | else-mark w ↦
          one_place c.args.marks.items i c.loop-mark.count c.if-mark.count c.loop-mark.places.items false (at ∙ ap Some w.if-mark.false) w.count-is
          (omega (arith, w.count-is, so.few)) so
    ])
