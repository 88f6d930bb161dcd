-- The root of a clock leaf of a net: the clock input at which the chain of its drivers ends.
use Rattle.std.specs.Prelude.{◌≡◌, ℕ, List, take, slice_get, Bool, true, false, Option, Some}
use Rattle.std.specs.List.{count_by}
use Rattle.fir_base.specs.Ticks.{Tick}
use Rattle.fir_net.specs.declared.leaf.Role.{Role}
use Rattle.fir_net.specs.declared.leaf.Role.TheVariants as role
use Rattle.fir_net.specs.declared.leaf.Leaf.{Leaf}
use Rattle.fir_net.specs.declared.net.FlatNet.{FlatNet}
use Rattle.fir_net.specs.working.Settled.{Settled, clock_driver}

abbrev pub is_clock_input : Role → Bool
is_clock_input role.Clock = true
is_clock_input _ = false

-- how many clock inputs stand before the leaf of that number
abbrev pub inputs_before : List Leaf → ℕ → ℕ
inputs_before leaves k = count_by (λ l. is_clock_input l.role) (take k leaves)

-- the leaf of that number is a clock input, with so many before it, or is driven by a clock leaf that has this root
pub data HasRoot (net : FlatNet) : ℕ → ℕ → Type 0 where
  input : (k n : ℕ) (l : Leaf) → slice_get net.leaves k ≡ Some l → l.role ≡ role.Clock → inputs_before net.leaves k ≡ n → HasRoot net k n
  driven : (k j n : ℕ) (l : Leaf) → slice_get net.leaves k ≡ Some l → clock_driver l.role ≡ Some (Some j) → HasRoot net j n → HasRoot net k n

-- in all settled values of a net the root of a clock leaf is its clock
abbrev pub RootIsClock : Type 0
RootIsClock =
    (net : FlatNet) (k n : ℕ) (state : List ℕ) (tick : Tick) (env : ℕ → ℕ) (clock : ℕ → Option ℕ) → Settled net state tick env clock → HasRoot net k n
    → clock k ≡ Some n
