-- Bits of one number, and two numbers side by side.
use Rattle.std.proofs.Common.{◌≡◌, ℕ, ◌+◌, ◌-◌, ◌/◌, ◌%◌, ◌^◌, ◌<◌, ◌≤◌, arith, ap, ◌∙◌}
use Rattle.std.specs.Prelude.{bit_and}
use Rattle.std.proofs.lemmas.Nat.{shr_below}
use Rattle.fir_bits.proofs.Powers.{pow_le}
use Rattle.fir_bits.proofs.Masks.{and_greatest}
use Rattle.fir_work.proofs.Numbers.{mod_wide, div_one}

-- the bits n down to m
pub bits_field : (r g x n m : ℕ) → g + 1 ≡ 2 ^ r → r ≡ n + 1 - m → bit_and (x / 2 ^ m) g ≡ x / 2 ^ m % 2 ^ (n + 1 - m)
bits_field r g x n m is wide = and_greatest r g (x / 2 ^ m) is ∙ ap (λ k. x / 2 ^ m % 2 ^ k) wide

-- the high n bits of w
pub head_field : (w r g x n : ℕ) → g + 1 ≡ 2 ^ r → r ≡ n → n ≤ w → x < 2 ^ w → bit_and (x / 2 ^ (w - r)) g ≡ x / 2 ^ (w - n)
head_field w r g x n is wide within below =
    let parts : n + (w - n) ≡ w = omega arith in
    let powers = pow_le w (n + (w - n)) (omega arith) in
    and_greatest r g (x / 2 ^ (w - r)) is ∙ ap (λ k. x / 2 ^ (w - k) % 2 ^ k) wide ∙ mod_wide (x / 2 ^ (w - n)) n n (shr_below x n (w - n) (omega arith)) (omega arith)

-- the low r bits
pub low_field : (r g x : ℕ) → g + 1 ≡ 2 ^ r → bit_and (x / 2 ^ 0) g ≡ x % 2 ^ r
low_field r g x is = and_greatest r g (x / 2 ^ 0) is ∙ ap (λ k. k % 2 ^ r) (div_one x)
