use Rattle.std.proofs.Common.{◌≡◌, length}
use Rattle.ver_sim.specs.working.Orders.{AreDrivers}
use Rattle.ver_sim.proofs.drivers.drivers_by_place.Given as goal

abbrev pub invariant-loop-number : goal.invariant-loop-number
invariant-loop-number l = (length l.drivers.items ≡ l.places) × AreDrivers l.tasks l.number l.drivers.items
