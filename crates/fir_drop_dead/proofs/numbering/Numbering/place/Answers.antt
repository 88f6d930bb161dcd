use Rattle.std.proofs.Common.{List, Bool, refl, ap, ◌∙◌, length, arith, ◌≤◌}
use Rattle.fir_drop_dead.specs.working.Numbers.{place}
use Rattle.fir_drop_dead.proofs.PlacesSoFar.{past_places}
use Rattle.fir_drop_dead.proofs.numbering.Numbering.place.Goals as goal

pub returns-in-None : goal.returns-in-None
returns-in-None c =
    let n = c.self.inside in
    let past : length n.places.items ≤ c.args.number = omega (arith, c.in-None.ensures.lookup.3, ap length c.as_slice.ensures.value) in
    past_places n.marks.items (length n.marks.items) n.count c.args.number n.places.items refl past c.self.invariant
    ∙ ap (λ (ms : List Bool). place ms c.args.number) c.self.view_is
