-- The low bits of numbers, by the greatest number g of a width w.
use Rattle.std.proofs.Common.{◌≡◌, ℕ, zero, suc, ◌+◌, ◌-◌, ◌*◌, ◌^◌, ◌<◌, ◌≤◌, ◌%◌, ◌⊎◌, inl, inr, Bool, true, false, arith, ◌∙◌, ap, refl, pos, neg_ℤ, unsigned_abs}
use Rattle.std.specs.Prelude.{bit_and, bit_or}
use Rattle.std.proofs.lemmas.Nat.{and_mask, or_shifted, shl_whole}
use Rattle.fir_bits.specs.Integers.{bits_of, of_sign}

-- an `and` with the greatest number gives the low bits
pub and_greatest : (w g n : ℕ) → g + 1 ≡ 2 ^ w → bit_and n g ≡ n % 2 ^ w
and_greatest w g n e =
    let is : g ≡ 2 ^ w - 1 = omega arith in
    ap (bit_and n) is ∙ and_mask n w

-- the low bits of a negative integer are those of one less, turned
pub bits_of-negative : (w g m : ℕ) → g + 1 ≡ 2 ^ w → 0 < m → g - bit_and (m - 1) g ≡ bits_of w (neg_ℤ (pos m))
bits_of-negative w g zero e some = absurd (omega arith)
bits_of-negative w g (suc k) e some =
    let less : suc k - 1 ≡ k = omega arith in
    rw less (omega (arith, and_greatest w g k e))

-- and those of another integer are those of its magnitude
pub bits_of-not_negative : (w g : ℕ) (negative : Bool) (m : ℕ) → g + 1 ≡ 2 ^ w → (negative ≡ true × m ≤ 0) ⊎ (negative ≡ false) → bit_and m g ≡ bits_of w (of_sign negative m)
bits_of-not_negative w g false m e h = and_greatest w g m e
bits_of-not_negative w g true zero e h = and_greatest w g 0 e
bits_of-not_negative w g true (suc k) e (inl h) = absurd (omega (arith, h.1))
bits_of-not_negative w g true (suc k) e (inr h) = absurd (cc)

-- the size of an integer is its magnitude
pub unsigned_abs-of_sign : (negative : Bool) (m : ℕ) → unsigned_abs (of_sign negative m) ≡ m
unsigned_abs-of_sign false m = refl
unsigned_abs-of_sign true zero = refl
unsigned_abs-of_sign true (suc k) = refl

-- two values side by side, as a shift in 128 bits and an `or` make them
pub or_joined : (a b w v : ℕ) → a < 2 ^ w → b < 2 ^ v → w + v ≤ 128 → bit_or ((a * 2 ^ v) % 2 ^ 128) b ≡ a * 2 ^ v + b
or_joined a b w v h k narrow = ap (λ x. bit_or x b) (shl_whole a w v 128 h narrow) ∙ or_shifted a v b k
