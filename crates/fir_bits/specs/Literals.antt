-- Which widths hold the number of a literal, and the least that does (FIRRTL spec, "Literals").
-- A number is a sign and a magnitude. A UInt of w bits holds the numbers below 2 ^ w, an SInt those from -2 ^ (w - 1) to 2 ^ (w - 1) - 1.
use Rattle.std.specs.Prelude.{ℕ, zero, suc, ◌+◌, ◌*◌, ◌^◌, Bool, true, false, nat_lt, nat_le, if◌then◌else◌}

-- no text spells a UInt below 0
abbrev pub holds_number : Bool → ℕ → Bool → ℕ → Bool
holds_number false w negative m = nat_lt m (2 ^ w)
holds_number true w false m = nat_lt (2 * m) (2 ^ w)
holds_number true w true m = nat_le (2 * m) (2 ^ w)

-- the first of so many widths from w on that holds the number, or else the width behind them
abbrev pub first_holding : Bool → Bool → ℕ → ℕ → ℕ → ℕ
first_holding signed negative m zero w = w
first_holding signed negative m (suc n) w = if holds_number signed w negative m then w else first_holding signed negative m n (w + 1)

-- the least width from 1 on that holds the number; 129 where none up to 128 does
unfoldable pub least_width : Bool → Bool → ℕ → ℕ
least_width signed negative m = first_holding signed negative m 128 1
