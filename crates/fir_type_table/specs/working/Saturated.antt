-- Numbers that stand still at 2^64 - 1.
use Rattle.std.specs.Prelude.{ℕ, ◌-◌, ◌^◌, min}

abbrev pub saturated : ℕ → ℕ
saturated n = min n (2 ^ 64 - 1)
