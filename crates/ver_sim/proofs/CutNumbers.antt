-- Numbers that are cut to their low bits.
use Rattle.std.proofs.Common.{◌≡◌, ℕ, ◌+◌, ◌-◌, ◌*◌, ◌/◌, ◌%◌, ◌^◌, ◌<◌, ◌≤◌, sym, ap, ◌∙◌, arith}
use Rattle.std.proofs.Math.Nat.{mul_assoc, mod-eq_of_lt, mul-mod_left, mod-add-mod}
use Rattle.std.proofs.Math.Pow.{mod-mod-pow}
use Rattle.std.proofs.lemmas.Nat.{pow-add, pow_pos, div_below}
use Rattle.fir_bits.proofs.Powers.{pow_le}

-- what needs no more than 128 bits
pub low_all : (n w : ℕ) → n < 2 ^ 128 → 128 ≤ w → n ≡ n % 2 ^ w
low_all n w lt le = let room : 2 ^ 128 ≤ 2 ^ w = pow_le 128 w le in sym (mod-eq_of_lt {n = n} {m = 2 ^ w} (omega (arith, lt, room)))

pub lowered_all : (n w : ℕ) → n < 2 ^ 128 → 128 ≤ w → 0 ≡ n / 2 ^ w
lowered_all n w lt le =
    let room : 2 ^ 128 ≤ 2 ^ w = pow_le 128 w le in
    let low : n / 2 ^ w < 1 = div_below n (2 ^ w) 1 (pow_pos w) (omega (arith, lt, room)) in
    omega (arith, low)

pub raised_all : (n w : ℕ) → 128 ≤ w → 0 ≡ n * 2 ^ w % 2 ^ 128
raised_all n w le =
    let sum : w ≡ (w - 128) + 128 = omega (arith, le) in
    let split : n * 2 ^ w ≡ n * 2 ^ (w - 128) * 2 ^ 128 =
    ap (λ (k : ℕ). n * 2 ^ k) sum ∙ ap (λ (p : ℕ). n * p) (pow-add 2 (w - 128) 128) ∙ sym (mul_assoc n (2 ^ (w - 128)) (2 ^ 128)) in
    sym (ap (λ (p : ℕ). p % 2 ^ 128) split ∙ mul-mod_left (n * 2 ^ (w - 128)) (2 ^ 128))

-- cut to 128 bits first
pub cut_first : (n w : ℕ) → w ≤ 128 → n % 2 ^ 128 % 2 ^ w ≡ n % 2 ^ w
cut_first n w narrow =
    let sum : 128 ≡ (128 - w) + w = omega (arith, narrow) in
    ap (λ (k : ℕ). n % 2 ^ k % 2 ^ w) sum ∙ mod-mod-pow n (128 - w) w

-- a difference that wraps at 128 bits, cut to w, where g is the greatest number of w bits
pub difference_cut : (a b w g : ℕ) → w ≤ 128 → g + 1 ≡ 2 ^ w → b ≤ g → ((a + (g - b)) % 2 ^ 128 + 1) % 2 ^ 128 % 2 ^ w ≡ (a + (2 ^ w - b)) % 2 ^ w
difference_cut a b w g narrow is le =
    let sum : (a + (g - b)) + 1 ≡ a + (2 ^ w - b) = omega (arith, is, le) in
    ap (λ (n : ℕ). n % 2 ^ w) (mod-add-mod (a + (g - b)) (2 ^ 128) 1) ∙ cut_first ((a + (g - b)) + 1) w narrow ∙ ap (λ (n : ℕ). n % 2 ^ w) sum
