-- Which registers of a module take a value at the edges of their clocks, by the numbers of its leaves: those that some statement over its leaves drives, under
-- whatever choice, and those with a reset. They are those that the definitions by paths tell.
use Rattle.std.specs.Prelude.{ℕ, Bool, true, false, ◌||◌, Option, Some, None}
use Rattle.fir_meaning.specs.working.LeafModules.{LeafModule, LeafReset, Role, register, role_at}
use Rattle.fir_meaning.specs.working.UndrivenChoices.{drives_any}

abbrev pub has_reset : Option LeafReset → Bool
has_reset None = false
has_reset (Some r) = true

-- of a leaf with that role, where some statement drives it or none
abbrev pub takes_by : Bool → Role → Bool
takes_by is_driven (register clock reset) = is_driven || has_reset reset
takes_by is_driven _ = false

abbrev pub takes : LeafModule → ℕ → Bool
takes m x = takes_by (drives_any x m.body) (role_at m x)
