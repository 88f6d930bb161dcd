use Rattle.std.proofs.Common.{◌≡◌, true, false, length, refl, sym, subst}
use Rattle.std.proofs.lemmas.Option.{slice_get_read}
use Rattle.fir_meaning.specs.ResetJoins.{numbered_module}
use Rattle.fir_leaf_table.specs.working.PortPlaces.{AreThose}
use Rattle.fir_leaf_table.proofs.FoundPlaces.{places_there, places_within}
use Rattle.fir_leaf_table.proofs.port_places.port_places.Goals as goal

pub returns-in_default : goal.returns-in_default
returns-in_default c = λ circuit s before n name frames h. absurd (c.in_default.ensures circuit s before n name frames h)

pub returns-in-Some-get : goal.returns-in-Some-get
returns-in-Some-get c = λ circuit s before n name frames h.
    let all = c.args.frame.now.port_places.now in
    let number = c.in-Some.number in
    let places = c.in-Some-get.places.now in
    let is = c.in-Some.ensures circuit s before n name frames h in
    let within = places_within circuit.modules all frames.port_places name number is in
    subst (λ l. AreThose l (numbered_module 0 circuit.modules name)) (sym c.deref.ensures.value)
    (places_there circuit.modules all frames.port_places name number is places
    (slice_get_read all (length all) number places refl within c.in-Some-get.ensures.lookup.1))

pub returns-in-None : goal.returns-in-None
returns-in-None c = λ circuit s before n name frames h.
    let is = c.in-Some.ensures circuit s before n name frames h in
    let there : false ≡ true = c.in-None.ensures.lookup.2
    (places_within circuit.modules c.args.frame.now.port_places.now frames.port_places name c.in-Some.number is) in
    absurd (cc)
