-- Values of a width.
-- A width is a number of bits from 0 to 128, and a value of a width is a number below 2 to that power.
use Rattle.std.specs.Prelude.{ℕ, ◌+◌, ◌-◌, ◌*◌, ◌^◌, ◌%◌, ◌<◌, ◌≤◌, Bool, ◌&&◌, if◌then◌else◌, nat_lt, nat_le}

-- a width and a number
pub record BitVector : Type 0 where
  pub width : ℕ
  pub number : ℕ

pub record IsBitVector (v : BitVector) : Type 0 where
  pub narrow : v.width ≤ 128
  pub below : v.number < 2 ^ v.width

-- each of the w bits of n turned
abbrev pub complement : ℕ → ℕ → ℕ
complement w n = 2 ^ w - 1 - n

-- whether the top bit of the w bits is set
abbrev pub is_negative : ℕ → ℕ → Bool
is_negative w n = nat_lt (2 ^ w - 1) (2 * n)

-- n of w bits at a width from w on: filled with its sign where it is signed, else with zeros
abbrev pub extended : Bool → ℕ → ℕ → ℕ → ℕ
extended signed w n to = if signed && is_negative w n then n + (2 ^ to - 2 ^ w) else n

-- the low bits of n
abbrev pub low_bits : ℕ → ℕ → ℕ
low_bits to n = n % 2 ^ to

-- n of w bits at any width: extended, or cut to its low bits
abbrev pub fitted : Bool → ℕ → ℕ → ℕ → ℕ
fitted signed w n to = if nat_le w to then extended signed w n to else low_bits to n
