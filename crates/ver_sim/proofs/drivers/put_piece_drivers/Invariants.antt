use Rattle.std.proofs.Common.{◌≡◌, ◌++◌, drop}
use Rattle.std.specs.Prelude.{flat_map}
use Rattle.ver_sim.specs.working.Orders.{drivers_of}
use Rattle.ver_sim.specs.working.Pieces.{piece_places}
use Rattle.ver_sim.proofs.drivers.put_piece_drivers.Given as goal

abbrev pub invariant-loop-piece : goal.invariant-loop-piece
invariant-loop-piece l =
    l.out.items ++ drivers_of l.drivers (flat_map piece_places (drop l.piece-index l.pieces)) ≡ l.initial.out.items ++ drivers_of l.drivers (flat_map piece_places l.pieces)
