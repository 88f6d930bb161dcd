-- A step of the walk to a root, and what stands at its end, as the code reads them.
use Rattle.std.specs.Prelude.{ℕ, List, slice_get, Option, Some, None}
use Rattle.fir_net.specs.declared.leaf.Role.{Role}
use Rattle.fir_net.specs.declared.leaf.Role.TheVariants as role
use Rattle.fir_net.specs.declared.leaf.Leaf.{Leaf}
use Rattle.fir_clock_root.specs.working.ClockRoots.{inputs_before}

abbrev pub role_driver : Role → Option ℕ
role_driver (role.ClockOutput c) = c
role_driver (role.ClockWire c) = c
role_driver _ = None

abbrev pub leaf_driver : Option Leaf → Option ℕ
leaf_driver None = None
leaf_driver (Some l) = role_driver l.role

-- the clock leaf that drives the leaf of that number
abbrev pub driver_at : List Leaf → ℕ → Option ℕ
driver_at leaves k = leaf_driver (slice_get leaves k)

abbrev pub role_number : ℕ → Role → Option ℕ
role_number n role.Clock = Some n
role_number n _ = None

abbrev pub leaf_number : ℕ → Option Leaf → Option ℕ
leaf_number n None = None
leaf_number n (Some l) = role_number n l.role

-- the number of a clock input
abbrev pub number_at : List Leaf → ℕ → Option ℕ
number_at leaves k = leaf_number (inputs_before leaves k) (slice_get leaves k)
