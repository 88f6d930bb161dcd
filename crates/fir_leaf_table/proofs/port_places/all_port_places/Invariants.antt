use Rattle.std.proofs.Common.{take}
use Rattle.fir_ast.specs.working.Views.{circuit_of}
use Rattle.fir_leaf_table.specs.working.ModulePlaces.{ArePlacesOf}
use Rattle.fir_leaf_table.proofs.port_places.all_port_places.Given as goal

abbrev pub invariant-loop-number : goal.invariant-loop-number
invariant-loop-number l = ArePlacesOf (take l.number (circuit_of l.fitted).modules) l.all.items
