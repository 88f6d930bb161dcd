use Rattle.std.proofs.Common.{◌≡◌, map, take}
use Rattle.fir_drivers.specs.working.Slots.{slot_at}
use Rattle.fir_drivers.proofs.slots.slots_of.Given as goal

abbrev pub invariant-loop-leaf : goal.invariant-loop-leaf
invariant-loop-leaf l = l.bounds.items ≡ map (slot_at l.slots l.nothing) (take l.leaf-index l.leaves)
