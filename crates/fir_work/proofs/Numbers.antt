-- Numbers below powers of two.
use Rattle.std.proofs.Common.{◌≡◌, ℕ, zero, suc, ◌+◌, ◌-◌, ◌*◌, ◌/◌, ◌%◌, ◌^◌, ◌<◌, ◌≤◌, arith, ap, ◌∙◌}
use Rattle.std.proofs.Math.Nat.{mod-eq_of_lt, add-mod_left}
use Rattle.std.proofs.lemmas.Nat.{pow-add, pow_pos, mod_low}
use Rattle.fir_bits.proofs.Powers.{pow_le}

-- a number of w bits is the low part of itself at any width from w on
pub mod_wide : (n w to : ℕ) → n < 2 ^ w → w ≤ to → n % 2 ^ to ≡ n
mod_wide n w to below wider = let powers = pow_le w to wider in mod-eq_of_lt (omega arith)

pub div_one : (n : ℕ) → n / 2 ^ 0 ≡ n
div_one n = omega arith

-- a difference that wraps at 128 bits
pub less_greater : (a b : ℕ) → b ≤ a → a < 2 ^ 128 → (a + (2 ^ 128 - b)) % 2 ^ 128 ≡ a - b
less_greater a b h below =
    let sum : a + (2 ^ 128 - b) ≡ 2 ^ 128 + (a - b) = omega arith in
    ap (λ (n : ℕ). n % 2 ^ 128) sum ∙ add-mod_left (2 ^ 128) (a - b) ∙ mod-eq_of_lt (omega arith)

pub less_smaller : (a b : ℕ) → a < b → b < 2 ^ 128 → (a + (2 ^ 128 - b)) % 2 ^ 128 ≡ 2 ^ 128 - (b - a)
less_smaller a b h below =
    let sum : a + (2 ^ 128 - b) ≡ 2 ^ 128 - (b - a) = omega arith in
    ap (λ (n : ℕ). n % 2 ^ 128) sum ∙ mod-eq_of_lt (omega arith)

-- the low r bits of 2 ^ 128 less a small number
pub low_of_rest : (d r : ℕ) → 0 < d → d ≤ 2 ^ r → r ≤ 128 → (2 ^ 128 - d) % 2 ^ r ≡ 2 ^ r - d
low_of_rest d r some small narrow =
    let parts : 2 ^ 128 ≡ 2 ^ (128 - r) * 2 ^ r = ap (λ x. 2 ^ x) (rejoined r narrow) ∙ pow-add 2 (128 - r) r in
    ap (λ x. x % 2 ^ r) (spread d (2 ^ r) (2 ^ (128 - r)) (2 ^ 128) small (pow_pos (128 - r)) parts) ∙ mod_low (2 ^ (128 - r) - 1) r (2 ^ r - d) (omega arith)
  where
    rejoined : (b : ℕ) → b ≤ 128 → 128 ≡ 128 - b + b
    rejoined b h = omega arith

    less_one : (p m : ℕ) → 0 < m → m * p ≡ (m - 1) * p + p
    less_one p (suc k) h = let e : suc k - 1 ≡ k = omega arith in rw e (omega arith)
    less_one p zero h = absurd (omega arith)

    spread : (a p m t : ℕ) → a ≤ p → 0 < m → t ≡ m * p → t - a ≡ (m - 1) * p + (p - a)
    spread a p m t small h e = omega (arith, e, less_one p m h)
