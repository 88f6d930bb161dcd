use Rattle.fir_type_table.specs.working.Tables.{types_of}
use Rattle.fir_type_table.proofs.PlacedMembers.{PlacesSoFar}
use Rattle.fir_type_table.proofs.table.TypeTable.placed_members.Given as goal

abbrev pub invariant-loop-part : goal.invariant-loop-part
invariant-loop-part l = PlacesSoFar (types_of l.self) l.yielded l.members.items l.offset l.shared_offset
