use Rattle.std.proofs.Common.{◌≡◌, ◌++◌, drop}
use Rattle.ver_places.specs.working.ItemPlaces.{starts_of}
use Rattle.ver_places.proofs.starts.starts_from.Given as goal

abbrev pub invariant-loop-item : goal.invariant-loop-item
invariant-loop-item l = starts_of l.items l.places ≡ l.starts.items ++ starts_of (drop l.item-index l.items) l.next
