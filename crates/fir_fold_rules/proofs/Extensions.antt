-- Values at greater widths are the low bits of their integers.
use Rattle.std.proofs.Common.{◌≡◌, ℕ, ◌+◌, ◌-◌, ◌*◌, ◌%◌, ◌^◌, ◌<◌, ◌≤◌, Bool, true, false, if◌then◌else◌, ◌&&◌, arith, refl, sym, ap, ◌∙◌, ℤ, pos, negsuc, ◌+ℤ◌, ◌-ℤ◌, unsigned_abs}
use Rattle.std.specs.Int.{int_rem_euclid}
use Rattle.std.proofs.lemmas.Int.{ints, int_rem_euclid_is}
use Rattle.std.proofs.lemmas.Nat.{pow_pos}
use Rattle.std.proofs.lemmas.Bool.{le-leb, le-ltb}
use Rattle.std.proofs.Math.Nat.{mod-eq_of_lt}
use Rattle.fir_bits.specs.Values.{extended, fitted, is_negative}
use Rattle.fir_bits.specs.Integers.{bits_of, reading}
use Rattle.fir_bits.proofs.Powers.{pow_le}
use Rattle.fir_bits.proofs.Readings.{reading-extended}

low_is : (r : ℕ) (z : ℤ) → bits_of r z ≡ unsigned_abs (int_rem_euclid z (pos (2 ^ r)))
low_is r (pos n) = refl
low_is r (negsuc n) = refl

-- an integer that is a multiple of 2 ^ r below a number has its low bits
bits_of-below_number : (r : ℕ) (z : ℤ) (k m : ℕ) → z +ℤ pos (k * 2 ^ r) ≡ pos m → bits_of r z ≡ m % 2 ^ r
bits_of-below_number r z k m e = low_is r z ∙ ap unsigned_abs (int_rem_euclid_is z (pos (2 ^ r)) (2 ^ r) k m (pow_pos r) refl e)

pub below_power : (n v w : ℕ) → n < 2 ^ v → v ≤ w → n < 2 ^ w
below_power n v w h wider = omega (arith, pow_le v w wider)

-- the low bits of a value's integer are the value at that width
wide : (b : Bool) (w n r : ℕ) → n < 2 ^ w → w ≤ r → bits_of r (if b then pos n -ℤ pos (2 ^ w) else pos n) ≡ (if b then n + (2 ^ r - 2 ^ w) else n)
wide false w n r below h = mod-eq_of_lt (below_power n w r below h)
wide true w n r below h =
    let powers = pow_le w r h in
    bits_of-below_number r (pos n -ℤ pos (2 ^ w)) 1 (n + (2 ^ r - 2 ^ w)) (omega (arith, ints)) ∙ mod-eq_of_lt (omega (arith, below))

pub bits_of-reading : (s : Bool) (w n r : ℕ) → n < 2 ^ w → w ≤ r → bits_of r (reading s w n) ≡ extended s w n r
bits_of-reading s w n r below wider = wide (s && is_negative w n) w n r below wider

-- at its own width a value is itself
own : (b : Bool) (w n : ℕ) → (if b then n + (2 ^ w - 2 ^ w) else n) ≡ n
own true w n = omega arith
own false w n = refl

pub extended_own : (s : Bool) (w n : ℕ) → extended s w n w ≡ n
extended_own s w n = own (s && is_negative w n) w n

-- zero is zero at each width, and a UInt stays itself
pub extended_zero : (s : Bool) (w r : ℕ) → extended s w 0 r ≡ 0
extended_zero false w r = refl
extended_zero true w r = ap (λ (b : Bool). if b then 0 + (2 ^ r - 2 ^ w) else 0) (le-ltb (2 ^ w - 1) (2 * 0) (omega arith))

extended_low : (b : Bool) (w n r : ℕ) → n < 2 ^ w → w ≤ r → (if b then n + (2 ^ r - 2 ^ w) else n) < 2 ^ r
extended_low true w n r below wider = omega (arith, pow_le w r wider)
extended_low false w n r below wider = omega (arith, pow_le w r wider)

pub extended_below : (s : Bool) (w n r : ℕ) → n < 2 ^ w → w ≤ r → extended s w n r < 2 ^ r
extended_below s w n r below wider = extended_low (s && is_negative w n) w n r below wider

-- to extend twice is to extend once
pub extended_twice : (s : Bool) (w n v r : ℕ) → n < 2 ^ w → w ≤ v → v ≤ r → extended s v (extended s w n v) r ≡ extended s w n r
extended_twice s w n v r below first second =
    sym (bits_of-reading s v (extended s w n v) r (extended_below s w n v below first) second)
    ∙ ap (bits_of r) (reading-extended s w n v below first)
    ∙ bits_of-reading s w n r below (omega arith)

-- a fitted value that is to be no narrower is extended
pub fitted_wide : (s : Bool) (w n r : ℕ) → w ≤ r → fitted s w n r ≡ extended s w n r
fitted_wide s w n r h = ap (λ (b : Bool). if b then extended s w n r else n % 2 ^ r) (le-leb w r h)
