-- The low bits of integers.
-- Those of a sum, a difference, a product and a negative follow from the low bits of the parts.
-- A value at any width has the low bits of its integer.
use Rattle.std.proofs.Common.{◌≡◌, ℕ, ◌+◌, ◌-◌, ◌*◌, ◌/◌, ◌%◌, ◌^◌, ◌<◌, ◌≤◌, Bool, true, false, if◌then◌else◌, ◌&&◌, nat_le, inl, inr, arith, refl, sym, ap, ◌∙◌, ℤ, pos, negsuc, ◌+ℤ◌, ◌-ℤ◌, ◌*ℤ◌, neg_ℤ, unsigned_abs}
use Rattle.std.specs.Int.{int_rem_euclid}
use Rattle.std.proofs.lemmas.Int.{ints, int_rem_euclid_is}
use Rattle.std.proofs.lemmas.Nat.{pow_pos, pow-add, div-add-mod', div-mul-add, div_below, field_of, mod_below, mul-mod_second, shl_below}
use Rattle.std.proofs.lemmas.Bool.{cases_lt, le-leb, lt-leb}
use Rattle.std.proofs.Math.Nat.{mul-le-mul_left, mod-eq_of_lt}
use Rattle.std.proofs.Math.IntN.{*ℤ_comm}
use borrow.Author.Differences.{up, down, same_in, sum_is_lem, product_is}
use Rattle.fir_bits.specs.Values.{fitted, is_negative}
use Rattle.fir_bits.specs.Integers.{bits_of, reading, shifted_down}
use Rattle.fir_bits.proofs.Powers.{pow_le}
use Rattle.fir_bits.proofs.Below.{bits_of-below}

low_is : (r : ℕ) (z : ℤ) → bits_of r z ≡ unsigned_abs (int_rem_euclid z (pos (2 ^ r)))
low_is r (pos n) = refl
low_is r (negsuc n) = refl

-- an integer that is a multiple of 2 ^ r below a number has its low bits
pub bits_of-below_number : (r : ℕ) (z : ℤ) (k m : ℕ) → z +ℤ pos (k * 2 ^ r) ≡ pos m → bits_of r z ≡ m % 2 ^ r
bits_of-below_number r z k m e = low_is r z ∙ ap unsigned_abs (int_rem_euclid_is z (pos (2 ^ r)) (2 ^ r) k m (pow_pos r) refl e)

-- integers that are a multiple of 2 ^ r apart have the same low bits
pub bits_of-same : (r : ℕ) (x y : ℤ) (j k : ℕ) → x +ℤ pos (j * 2 ^ r) ≡ y +ℤ pos (k * 2 ^ r) → bits_of r x ≡ bits_of r y
bits_of-same r x y j k e =
    let t = down x + down y in
    let far : t * 1 ≤ t * 2 ^ r = mul-le-mul_left t (pow_pos r) in
    let n = up x + (j + t) * 2 ^ r - down x in
    bits_of-below_number r x (j + t) n (omega (arith, ints)) ∙ sym (bits_of-below_number r y (k + t) n (omega (arith, ints)))

-- an integer and its low bits are a multiple of 2 ^ r apart
pub record Apart (r : ℕ) (z : ℤ) (n : ℕ) : Type 0 where
  pub more : ℕ
  pub less : ℕ
  pub equal : up z + more * 2 ^ r ≡ n + less * 2 ^ r + down z

pub apart : (r : ℕ) (z : ℤ) → Apart r z (bits_of r z)
apart r (pos n) = record { more = 0; less = n / 2 ^ r; equal = let split = div-add-mod' n (2 ^ r) in omega (arith, ints) }
apart r (negsuc n) =
    record { more = n / 2 ^ r + 1; less = 0; equal = let split = div-add-mod' n (2 ^ r) in let some = pow_pos r in omega (arith, ints) }

pub bits_of-sum : (r : ℕ) (x y : ℤ) → bits_of r (x +ℤ y) ≡ (bits_of r x + bits_of r y) % 2 ^ r
bits_of-sum r x y =
    let a = apart r x in
    let b = apart r y in
    bits_of-same r (x +ℤ y) (pos (bits_of r x + bits_of r y)) (a.more + b.more) (a.less + b.less) (omega (arith, ints, a.equal, b.equal))

pub bits_of-difference : (r : ℕ) (x y : ℤ) → bits_of r (x -ℤ y) ≡ (bits_of r x + (2 ^ r - bits_of r y)) % 2 ^ r
bits_of-difference r x y =
    let a = apart r x in
    let b = apart r y in
    let below = bits_of-below r y in
    bits_of-same r (x -ℤ y) (pos (bits_of r x + (2 ^ r - bits_of r y))) (a.more + b.less + 1) (a.less + b.more)
    (omega (arith, ints, a.equal, b.equal))

pub bits_of-negated : (r : ℕ) (x : ℤ) → bits_of r (neg_ℤ x) ≡ (0 + (2 ^ r - bits_of r x)) % 2 ^ r
bits_of-negated r x =
    let a = apart r x in
    let below = bits_of-below r x in
    bits_of-same r (neg_ℤ x) (pos (0 + (2 ^ r - bits_of r x))) (a.less + 1) a.more (omega (arith, ints, a.equal))

-- a factor counts by its low bits alone
factor : (r : ℕ) (x y : ℤ) → bits_of r (x *ℤ y) ≡ bits_of r (pos (bits_of r x) *ℤ y)
factor r x y =
    let a = apart r x in
    let above = ap (λ n. n * up y) a.equal in
    let below = ap (λ n. n * down y) a.equal in
    bits_of-same r (x *ℤ y) (pos (bits_of r x) *ℤ y) (a.more * up y + a.less * down y) (a.less * up y + a.more * down y)
    (omega (arith, same_in, sum_is_lem, product_is))

pub bits_of-product : (r : ℕ) (x y : ℤ) → bits_of r (x *ℤ y) ≡ bits_of r x * bits_of r y % 2 ^ r
bits_of-product r x y =
    let turned = *ℤ_comm (pos (bits_of r x)) y in
    let both = *ℤ_comm (pos (bits_of r y)) (pos (bits_of r x)) in
    factor r x y ∙ ap (bits_of r) turned ∙ factor r y (pos (bits_of r x)) ∙ ap (bits_of r) both

pub bits_of-times_power : (r : ℕ) (x : ℤ) (k : ℕ) → bits_of r (x *ℤ pos (2 ^ k)) ≡ bits_of r x * 2 ^ k % 2 ^ r
bits_of-times_power r x k = bits_of-product r x (pos (2 ^ k)) ∙ mul-mod_second (bits_of r x) (2 ^ k) (2 ^ r)

-- a multiple of 2 ^ n, n bits wider
pub bits_of-multiple : (w n : ℕ) (x : ℤ) → bits_of (w + n) (x *ℤ pos (2 ^ n)) ≡ bits_of w x * 2 ^ n
bits_of-multiple w n x =
    let a = apart w x in
    let p = pow-add 2 w n in
    let times = ap (λ m. m * 2 ^ n) a.equal in
    bits_of-same (w + n) (x *ℤ pos (2 ^ n)) (pos (bits_of w x * 2 ^ n)) a.more a.less (rw p (omega (arith, same_in, sum_is_lem, product_is)))
    ∙ mod-eq_of_lt (shl_below (bits_of w x) w n (bits_of-below w x))

-- the bits without the low n ones
pub bits_of-shifted_down : (w n : ℕ) (x : ℤ) → bits_of w (shifted_down x n) ≡ bits_of (w + n) x / 2 ^ n
bits_of-shifted_down w n (pos a) = sym (field_of a w n)
bits_of-shifted_down w n (negsuc a) =
    turned (2 ^ w) (2 ^ n) (2 ^ (w + n)) (a % 2 ^ (w + n)) (a / 2 ^ n % 2 ^ w) (pow_pos n) (pow-add 2 w n)
    (mod_below a (2 ^ (w + n)) (pow_pos (w + n))) (field_of a w n)
  where
    turned : (p q m low high : ℕ) → 0 < q → m ≡ p * q → low < m → low / q ≡ high → p - 1 - high ≡ (m - 1 - low) / q
    turned p q m low high some product below e =
        let split = div-add-mod' low q in
        let rest = mod_below low q some in
        let inside = div_below low q p some (rw (← product) below) in
        let j = p - 1 - high in
        let sum : p ≡ j + 1 + high = omega arith in
        let times = ap (λ x. x * q) sum in
        let is : m - 1 - low ≡ j * q + (q - 1 - low % q) = omega (arith, ap (λ x. x * q) e) in
        sym (ap (λ x. x / q) is ∙ div-mul-add j q (q - 1 - low % q) (omega arith))

pub split_power : (w r : ℕ) → r ≤ w → 2 ^ w ≡ 2 ^ (w - r) * 2 ^ r
split_power w r h = let sum : w - r + r ≡ w = omega arith in ap (λ x. 2 ^ x) (sym sum) ∙ pow-add 2 (w - r) r

pub below_power : (n v w : ℕ) → n < 2 ^ v → v ≤ w → n < 2 ^ w
below_power n v w h wider = omega (arith, pow_le v w wider)

-- a number of w bits, or that number less 2 ^ w
low_of : (b : Bool) (w n r : ℕ) → n < 2 ^ w
    → bits_of r (if b then pos n -ℤ pos (2 ^ w) else pos n) ≡ (if nat_le w r then (if b then n + (2 ^ r - 2 ^ w) else n) else n % 2 ^ r)
low_of b w n r below =
    elim (cases_lt r w) [
      | inl h ↦ rw (lt-leb w r h) (cut b h)
      | inr h ↦ rw (le-leb w r h) (wide b h)
    ]
  where
    cut : (b : Bool) → r < w → bits_of r (if b then pos n -ℤ pos (2 ^ w) else pos n) ≡ n % 2 ^ r
    cut false h = refl
    cut true h =
        let product = split_power w r (omega arith) in
        bits_of-below_number r (pos n -ℤ pos (2 ^ w)) (2 ^ (w - r)) n (omega (arith, ints))

    wide : (b : Bool) → w ≤ r → bits_of r (if b then pos n -ℤ pos (2 ^ w) else pos n) ≡ (if b then n + (2 ^ r - 2 ^ w) else n)
    wide false h = mod-eq_of_lt (below_power n w r below h)
    wide true h =
        let powers = pow_le w r h in
        bits_of-below_number r (pos n -ℤ pos (2 ^ w)) 1 (n + (2 ^ r - 2 ^ w)) (omega (arith, ints)) ∙ mod-eq_of_lt (omega (arith, below))

-- a value at any width has the low bits of its integer
pub bits_of-reading : (signed : Bool) (w n r : ℕ) → n < 2 ^ w → bits_of r (reading signed w n) ≡ fitted signed w n r
bits_of-reading signed w n r below = low_of (signed && is_negative w n) w n r below
