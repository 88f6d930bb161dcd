use Rattle.ver_build.proofs.PlacesMade.{places_made}
use Rattle.ver_build.proofs.places.places_of.Goals as goal

pub returns : goal.returns
returns c =
    λ ordered.
    let nodes = c.in_ok-nodes.field-0 in
    rw (c.from_vec.ensures, c.from_vec-2.ensures, c.from_vec-3.ensures, c.from_vec-4.ensures, c.from_vec-5.ensures)
    (places_made c.args.net.now c.args.table.now c.args.order.now nodes.nodes.items nodes.readings.items c.in_ok-leaves.leaves.items
    c.in_ok-names.field-0.names.items c.in_ok-guards.guards.items c.in_ok-inits.inits nodes.last c.in_ok-names.field-0.last c.as_slice.result.now
    c.as_slice-4.result.now c.as_slice-2.result.now c.as_slice-3.result.now c.as_slice-5.result.now c.as_slice.ensures.value c.as_slice-4.ensures.value
    c.as_slice-2.ensures.value c.as_slice-3.ensures.value c.as_slice-5.ensures.value (c.in_ok-nodes.ensures.placed ordered) (c.in_ok-leaves.ensures ordered)
    (c.in_ok-names.ensures.named c.requires) (c.in_ok-guards.ensures c.requires) (c.in_ok-inits.ensures ordered))
