use Rattle.std.proofs.Common.{◌≡◌, ◌++◌, drop, length, map}
use Rattle.fir_ast.specs.working.Views.{port_of}
use Rattle.fir_type_table.specs.working.Tables.{types_of}
use Rattle.fir_leaf_table.specs.working.ModulePlaces.{places_of}
use Rattle.fir_leaf_table.specs.working.PortPlaces.{HaveTypes}
use Rattle.fir_leaf_table.proofs.port_places.places.Given as goal

abbrev pub invariant-loop-port : goal.invariant-loop-port
invariant-loop-port l =
    HaveTypes (types_of l.table) (map port_of l.ports) l.declared
    → l.places.items ++ places_of (map port_of (drop (length l.yielded) l.ports)) ≡ places_of (map port_of l.ports)
