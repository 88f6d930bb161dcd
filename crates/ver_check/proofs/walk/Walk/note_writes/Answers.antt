use Rattle.std.proofs.Common.{◌∙◌, sym, ap, subst, []}
use Rattle.ver_check.specs.ItemFaults.{Before}
use Rattle.ver_places.specs.Places.{place_at}
use Rattle.ver_check.specs.TreeFaults.{with_written}
use Rattle.ver_check.specs.working.Walks.{Stands, Steps}
use Rattle.ver_check.proofs.Undriven.{noted}
use Rattle.ver_check.proofs.walk.Walk.note_writes.Goals as goal

pub returns-in-Some : goal.returns-in-Some
returns-in-Some c =
    λ before st none.
    let w = c.in-Some.first.now in
    let r = noted before c.args.writes.now w c.args.places.now c.in-Some.ensures.value none in
    let place = c.place_at-place.ensures ∙ ap (place_at 0) c.array_places.ensures in
    subst (λ (b : Before). Steps c.write.result [] (Stands c.write.new.self b)) (ap (with_written before w.array) place ∙ sym r.1)
    (c.write.ensures before st r.0)
