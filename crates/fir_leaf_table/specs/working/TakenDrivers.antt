-- The walk takes the driver of the declaration that comes.
use Rattle.std.specs.Prelude.{◌≡◌, List, Option, Some, None}
use Rattle.fir_ground.specs.declared.driver.Driver.{Driver}
use Rattle.fir_ground.specs.working.DeclarationDrivers.{DriverMeant, driver_seen, drivers_seen}
use Rattle.fir_leaf.specs.declared.node.Node.{Node}
use Rattle.fir_leaf_table.specs.declared.walk.Walk.{Walk}

abbrev pub TakesDriver : List Node → DriverMeant → List DriverMeant → Option Driver → Walk → Type 0
TakesDriver nodes meant rest None new = ⊥
TakesDriver nodes meant rest (Some d) new = (driver_seen nodes d ≡ meant) × (drivers_seen nodes new.drivers.now ≡ rest)
