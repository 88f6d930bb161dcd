-- Sums, differences, products and quotients of numbers.
use Rattle.std.proofs.Common.{◌≡◌, ℕ, zero, suc, ◌+◌, ◌-◌, ◌*◌, ◌/◌, ◌%◌, ◌^◌, ◌<◌, ◌≤◌, ◌==◌, max, min, if◌then◌else◌, arith, ap, sym, ◌∙◌, pos, negsuc, ◌+ℤ◌, ◌-ℤ◌, ◌*ℤ◌, inl, inr}
use Rattle.std.specs.Prelude.{bit_and}
use Rattle.std.proofs.Math.Dec.{eqb-suc-zero}
use Rattle.std.proofs.Math.Nat.{mod-le}
use Rattle.std.proofs.lemmas.Bool.{cases_lt}
use Rattle.std.proofs.lemmas.Int.{ints}
use Rattle.std.proofs.lemmas.Nat.{pow-add, mod_below}
use Rattle.fir_bits.proofs.Powers.{pow_le, product_below}
use Rattle.fir_bits.proofs.Masks.{and_greatest}
use Rattle.fir_bits.specs.Integers.{bits_of, quotient, remainder}
use Rattle.fir_work.proofs.Numbers.{mod_wide, less_greater, less_smaller, low_of_rest}

-- a sum of two numbers of w and v bits has one bit more
sum_small : (x y w v r : ℕ) → x < 2 ^ w → y < 2 ^ v → r ≡ max w v + 1 → x + y < 2 ^ r
sum_small x y w v r hx hy wide =
    let first = pow_le w (max w v) (omega arith) in
    let second = pow_le v (max w v) (omega arith) in
    let double : 2 ^ r ≡ 2 ^ (max w v) * 2 ^ 1 = ap (λ k. 2 ^ k) wide ∙ pow-add 2 (max w v) 1 in
    omega arith

pub sum_is : (x y w v r : ℕ) → x < 2 ^ w → y < 2 ^ v → r ≡ max w v + 1 → r ≤ 128 → (x + y) % 2 ^ 128 ≡ bits_of r (pos x +ℤ pos y)
sum_is x y w v r hx hy wide narrow =
    let small = sum_small x y w v r hx hy wide in
    mod_wide (x + y) r 128 small narrow ∙ sym (mod_wide (x + y) r r small (omega arith))

pub difference_is : (x y w v r g : ℕ) → x < 2 ^ w → y < 2 ^ v → r ≡ max w v + 1 → r ≤ 128 → g + 1 ≡ 2 ^ r → bit_and ((x + (2 ^ 128 - y)) % 2 ^ 128) g ≡ bits_of r (pos x -ℤ pos y)
difference_is x y w v r g hx hy wide narrow is =
    let small = sum_small x y w v r hx hy wide in
    let powers = pow_le r 128 narrow in
    and_greatest r g _ is
    ∙ elim (cases_lt x y) [
      | inl h ↦ ap (λ k. k % 2 ^ r) (less_smaller x y h (omega arith)) ∙ low_of_rest (y - x) r (omega arith) (omega arith) narrow ∙ sym (negative x y (2 ^ r) h (omega arith))
      | inr h ↦ ap (λ k. k % 2 ^ r) (less_greater x y h (omega arith)) ∙ sym (ap (bits_of r) (natural x y h))
    ]
  where
    natural : (a b : ℕ) → b ≤ a → pos a -ℤ pos b ≡ pos (a - b)
    natural a b h = omega (arith, ints)

    below : (a b : ℕ) → a < b → pos a -ℤ pos b ≡ negsuc (b - a - 1)
    below a b h = omega (arith, ints)

    negative : (a b p : ℕ) → a < b → b < 2 ^ r → bits_of r (pos a -ℤ pos b) ≡ 2 ^ r - (b - a)
    negative a b p h small =
        let rest = mod_wide (b - a - 1) r r (omega arith) (omega arith) in
        ap (bits_of r) (below a b h) ∙ omega arith

pub product_is : (x y w v r : ℕ) → x < 2 ^ w → y < 2 ^ v → r ≡ w + v → r ≤ 128 → (x * y) % 2 ^ 128 ≡ bits_of r (pos x *ℤ pos y)
product_is x y w v r hx hy wide narrow =
    let small = product_below x y w v hx hy in
    mod_wide (x * y) (w + v) 128 small (omega arith) ∙ sym (mod_wide (x * y) (w + v) r small (omega arith))

-- towards zero, and by zero 0
pub quotient_is : (x y w r : ℕ) → x < 2 ^ w → r ≡ w → (if y == 0 then 0 else x / y) ≡ bits_of r (quotient (pos x) (pos y))
quotient_is x zero w r hx wide = sym (mod_wide 0 0 r (omega arith) (omega arith))
quotient_is x (suc k) w r hx wide = rw (eqb-suc-zero k) (sym (mod_wide (x / suc k) w r (omega (arith, hx, smaller x k)) (omega arith)))
  where
    smaller : (a b : ℕ) → a / suc b ≤ a
    smaller a b = omega arith

pub remainder_is : (x y w v r : ℕ) → x < 2 ^ w → y < 2 ^ v → r ≡ min w v → (if y == 0 then 0 else x % y) ≡ bits_of r (remainder (pos x) (pos y))
remainder_is x zero w v r hx hy wide = sym (mod_wide 0 0 r (omega arith) (omega arith))
remainder_is x (suc k) w v r hx hy wide =
    rw (eqb-suc-zero k)
    (let at_most = mod-le x (suc k) in
    let less = mod_below x (suc k) (omega arith) in
    elim (cases_lt w v) [
      | inl h ↦ sym (mod_wide (x % suc k) w r (omega arith) (omega arith))
      | inr h ↦ sym (mod_wide (x % suc k) v r (omega arith) (omega arith))
    ])
