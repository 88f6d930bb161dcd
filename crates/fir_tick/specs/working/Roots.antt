-- The clock of each clock leaf.
use Rattle.std.specs.Prelude.{◌≡◌, ℕ, ◌+◌, List, [], ◌∷◌, slice_get, Option, Some, None, unwrap_or}
use Rattle.fir_net.specs.declared.leaf.Role.{Role}
use Rattle.fir_net.specs.declared.leaf.Role.TheVariants as role
use Rattle.fir_net.specs.declared.leaf.Leaf.{Leaf}
use Rattle.fir_net.specs.declared.net.FlatNet.{FlatNet}
use Rattle.fir_net.specs.working.Settled.{clocks, clock_driver, driven_clock}

abbrev pub clock_count : Role → ℕ
clock_count role.Clock = 1
clock_count _ = 0

-- how many clock inputs stand before each leaf, where n stand before the first
abbrev pub clocks_before : ℕ → List Leaf → List ℕ
clocks_before n [] = []
clocks_before n (l ∷ ls) = n ∷ clocks_before (n + clock_count l.role) ls

-- the clock at a number
abbrev pub root_at : List (Option ℕ) → ℕ → Option ℕ
root_at roots k = unwrap_or (slice_get roots k) None

-- the clock of a leaf, by its role and its number among the clock inputs
abbrev pub role_root : (ℕ → Option ℕ) → ℕ → Role → Option ℕ
role_root clock number role.Clock = Some number
role_root clock number (role.ClockOutput c) = driven_clock clock c
role_root clock number (role.ClockWire c) = driven_clock clock c
role_root clock number _ = None

-- the clock of each clock leaf: an input's number, and of every other one what drives it, or none
pub record AreRoots (net : FlatNet) (roots : List (Option ℕ)) : Type 0 where
  pub inputs : (n k : ℕ) → slice_get (clocks net) n ≡ Some k → root_at roots k ≡ Some n
  pub driven : (k : ℕ) (l : Leaf) (c : Option ℕ) → slice_get net.leaves k ≡ Some l → clock_driver l.role ≡ Some c → root_at roots k ≡ driven_clock (root_at roots) c
