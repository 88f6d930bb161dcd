-- Powers of two, and products and sums below them.
use Rattle.std.proofs.Common.{◌≡◌, ℕ, ◌+◌, ◌-◌, ◌*◌, ◌^◌, ◌<◌, ◌≤◌, arith, max, inl, inr}
use Rattle.std.proofs.Math.Nat.{pow-le-pow_right}
use Rattle.std.proofs.lemmas.Nat.{pow-add, mul-le, mul-lt, shl_below}
use Rattle.std.proofs.lemmas.Bool.{cases_lt}

-- a greater exponent gives no smaller power
pub pow_le : (i j : ℕ) → i ≤ j → 2 ^ i ≤ 2 ^ j
pow_le i j h = pow-le-pow_right (omega arith) h

-- two numbers of i and j bits have a product of i + j
pub product_below : (a b i j : ℕ) → a < 2 ^ i → b < 2 ^ j → a * b < 2 ^ (i + j)
product_below a b i j h k = rw (pow-add 2 i j) (mul-lt a b (2 ^ i) (2 ^ j) h k)

-- a multiple below 2 ^ k is by a power below it
pub exponent_below : (a n k : ℕ) → 0 < a → a * 2 ^ n < 2 ^ k → n < k
exponent_below a n k some below =
    elim (cases_lt n k) [ inl h ↦ h | inr h ↦ absurd (omega (arith, pow_le k n h, mul-le 1 (2 ^ n) a (2 ^ n) some (omega arith), below)) ]

-- the sum of two numbers of w and v bits, where that has at most 128
pub sum_below : (x y w v r : ℕ) → x < 2 ^ w → y < 2 ^ v → r ≡ max w v + 1 → r ≤ 128 → x + y < 2 ^ 128
sum_below x y w v r h k is narrow = omega (arith, pow_le w 127 (omega arith), pow_le v 127 (omega arith))

-- a number of w bits times 2 ^ n, where n is below 2 ^ v
pub shift_below : (x n w v : ℕ) → x < 2 ^ w → n < 2 ^ v → w + (2 ^ v - 1) ≤ 128 → x * 2 ^ n < 2 ^ 128
shift_below x n w v h k narrow = omega (arith, shl_below x w n h, pow_le (w + n) 128 (omega arith))

-- the product of two numbers of w and v bits, where that has at most 128
pub product_narrow : (x y w v : ℕ) → x < 2 ^ w → y < 2 ^ v → w + v ≤ 128 → x * y < 2 ^ 128
product_narrow x y w v h k narrow = omega (arith, product_below x y w v h k, pow_le (w + v) 128 narrow)

-- a number of w bits times 2 ^ n, where that has at most 128
pub multiple_narrow : (x n w : ℕ) → x < 2 ^ w → w + n ≤ 128 → x * 2 ^ n < 2 ^ 128
multiple_narrow x n w h narrow = omega (arith, shl_below x w n h, pow_le (w + n) 128 narrow)
