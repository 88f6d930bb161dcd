use Rattle.std.proofs.Common.{length, map}
use Rattle.std.proofs.lemmas.List.{length_push}
use Rattle.std.proofs.lemmas.Slice.Zip.{zip_turn}
use Rattle.fir_ast.specs.working.Views.{port_of}
use Rattle.fir_type_table.specs.working.Tables.{types_of}
use Rattle.fir_leaf_table.specs.working.ModulePlaces.{places_of}
use Rattle.fir_leaf_table.proofs.PlacesSoFar.{places_more}
use Rattle.fir_leaf_table.proofs.port_places.places.Goals as goal

pub loop-port-preserved : goal.loop-port-preserved
loop-port-preserved c =
    let ports = c.args.ports.now in
    let found = c.args.declared.now in
    let turn =
    zip_turn ports found c.loop-port.yielded c.into_iter-port-iterator.result c.loop-port.port-iterator c.next.new.self c.next.result (cc) (cc)
    c.loop-port.yielded_by (c.in-Some.port, c.in-Some.found) c.in-Some.is c.next.ensures.steps in
    λ types.
    rw (length_push c.loop-port.yielded (c.in-Some.port, c.in-Some.found))
    (places_more (types_of c.args.table.now) ports found types (places_of (map port_of ports)) (length c.loop-port.yielded) c.leaves_of_found.result
    c.in-Some.port.now c.in-Some.found.now c.loop-port.places c.push_place.new.places turn.0 (turn.2 c.in-Some.port.now) (turn.3 c.in-Some.found.now)
    c.leaves_of_found.ensures c.in_ok-push_place.ensures (c.loop-port.invariant types))
