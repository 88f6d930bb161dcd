-- The integers that values stand for, and their low bits.
use Rattle.std.proofs.Common.{◌≡◌, ℕ, zero, suc, ◌+◌, ◌-◌, ◌*◌, ◌^◌, ◌<◌, ◌≤◌, ◌%◌, Bool, true, false, if◌then◌else◌, arith, refl, sym, ap, ◌∙◌, ℤ, pos, negsuc, ◌-ℤ◌, neg_ℤ, inl, inr, subst}
use Rattle.std.proofs.lemmas.Int.{ints}
use Rattle.std.proofs.lemmas.Bool.{lt-ltb, le-ltb, cases_lt}
use Rattle.std.proofs.lemmas.Nat.{pow-add, pow_pos, mod_low}
use Rattle.std.proofs.Math.IntN.{neg_ℤ-neg_ℤ}
use Rattle.fir_bits.proofs.Powers.{pow_le}
use Rattle.fir_bits.specs.Values.{extended, low_bits, is_negative}
use Rattle.fir_bits.specs.Integers.{reading, bits_of}

-- a number with its top bit set is negative, and another is not
pub negative : (w n : ℕ) → 2 ^ w ≤ 2 * n → is_negative w n ≡ true
negative w n h = lt-ltb _ _ (omega (arith, h, pow_le 0 w (omega arith)))

pub not_negative : (w n : ℕ) → 2 * n < 2 ^ w → is_negative w n ≡ false
not_negative w n h = le-ltb _ _ (omega arith)

-- the integer of each
reading-negative : (w n : ℕ) → 2 ^ w ≤ 2 * n → reading true w n ≡ pos n -ℤ pos (2 ^ w)
reading-negative w n h = ap (λ (b : Bool). if b then pos n -ℤ pos (2 ^ w) else pos n) (negative w n h)

reading-not_negative : (w n : ℕ) → 2 * n < 2 ^ w → reading true w n ≡ pos n
reading-not_negative w n h = ap (λ (b : Bool). if b then pos n -ℤ pos (2 ^ w) else pos n) (not_negative w n h)

-- a negative value at a greater width
extended-negative : (w n to : ℕ) → 2 ^ w ≤ 2 * n → extended true w n to ≡ n + (2 ^ to - 2 ^ w)
extended-negative w n to h = ap (λ (b : Bool). if b then n + (2 ^ to - 2 ^ w) else n) (negative w n h)

extended-not_negative : (w n to : ℕ) → 2 * n < 2 ^ w → extended true w n to ≡ n
extended-not_negative w n to h = ap (λ (b : Bool). if b then n + (2 ^ to - 2 ^ w) else n) (not_negative w n h)

-- the integer of an extended value
pub reading-extended : (signed : Bool) (w n to : ℕ) → n < 2 ^ w → w ≤ to → reading signed to (extended signed w n to) ≡ reading signed w n
reading-extended false w n to below wider = refl
reading-extended true w n to below wider =
    elim (cases_lt (2 * n) (2 ^ w)) [
      | inl h ↦ (let powers = pow_le w to wider in
          ap (reading true to) (extended-not_negative w n to h) ∙ reading-not_negative to n (omega arith) ∙ sym (reading-not_negative w n h))
      | inr h ↦ (let powers = pow_le w to wider in
          ap (reading true to) (extended-negative w n to h) ∙ reading-negative to (n + (2 ^ to - 2 ^ w)) (omega arith)
          ∙ lower n (2 ^ w) (2 ^ to) powers ∙ sym (reading-negative w n h))
    ]
  where
    lower : (a p q : ℕ) → p ≤ q → pos (a + (q - p)) -ℤ pos q ≡ pos a -ℤ pos p
    lower a p q h = omega (arith, ints)

-- what is below 2 ^ w is its own low bits, with any multiple of 2 ^ w
mod_same : (n w : ℕ) → n < 2 ^ w → n % 2 ^ w ≡ n
mod_same n w h = let none : n ≡ 0 * 2 ^ w + n = omega arith in ap (λ x. x % 2 ^ w) none ∙ mod_low 0 w n h

-- a value filled with ones at a greater width has its own low bits
filled_low : (n w to : ℕ) → n < 2 ^ w → w ≤ to → (n + (2 ^ to - 2 ^ w)) % 2 ^ w ≡ n
filled_low n w to below wider =
    let parts : 2 ^ to ≡ 2 ^ (to - w) * 2 ^ w = ap (λ x. 2 ^ x) (rejoined to w wider) ∙ pow-add 2 (to - w) w in
    ap (λ x. x % 2 ^ w) (spread n (2 ^ w) (2 ^ (to - w)) (2 ^ to) (pow_pos (to - w)) parts) ∙ mod_low (2 ^ (to - w) - 1) w n below
  where
    rejoined : (a b : ℕ) → b ≤ a → a ≡ a - b + b
    rejoined a b h = omega arith

    less_one : (p m : ℕ) → 0 < m → m * p ≡ (m - 1) * p + p
    less_one p (suc k) h = let e : suc k - 1 ≡ k = omega arith in rw e (omega arith)
    less_one p zero h = absurd (omega arith)

    spread : (a p m t : ℕ) → 0 < m → t ≡ m * p → a + (t - p) ≡ (m - 1) * p + a
    spread a p m t h e = omega (arith, e, less_one p m h)

-- and with zeros too
pub low_bits-extended : (signed : Bool) (w n to : ℕ) → n < 2 ^ w → w ≤ to → low_bits w (extended signed w n to) ≡ n
low_bits-extended false w n to below wider = mod_same n w below
low_bits-extended true w n to below wider =
    elim (cases_lt (2 * n) (2 ^ w)) [
      | inl h ↦ ap (low_bits w) (extended-not_negative w n to h) ∙ mod_same n w below
      | inr h ↦ ap (low_bits w) (extended-negative w n to h) ∙ filled_low n w to below wider
    ]

-- the low bits of an integer in the signed range of their width stand for it
reading-pos : (r n : ℕ) → 2 * n < 2 ^ r → reading true r (bits_of r (pos n)) ≡ pos n
reading-pos r n h = ap (reading true r) (mod_same n r (omega arith)) ∙ reading-not_negative r n h

reading-neg : (r n : ℕ) → 2 * n ≤ 2 ^ r → reading true r (bits_of r (neg_ℤ (pos n))) ≡ neg_ℤ (pos n)
reading-neg r zero h = reading-pos r zero (pow_pos r)
reading-neg r (suc k) h =
    let low_is = mod_same k r (omega arith) in
    let bits_is : 2 ^ r - 1 - k % 2 ^ r ≡ 2 ^ r - suc k = omega arith in
    ap (reading true r) bits_is ∙ reading-negative r (2 ^ r - suc k) (omega arith) ∙ turned (2 ^ r) k (omega arith)
  where
    turned : (p j : ℕ) → suc j ≤ p → pos (p - suc j) -ℤ pos p ≡ negsuc j
    turned p j h = omega (arith, ints)

-- a value is the low bits of its integer
bits_of-reading : (w n : ℕ) → n < 2 ^ w → bits_of w (reading true w n) ≡ n
bits_of-reading w n below =
    elim (cases_lt (2 * n) (2 ^ w)) [
      | inl h ↦ ap (bits_of w) (reading-not_negative w n h) ∙ mod_same n w below
      | inr h ↦ (let low_is = mod_same (2 ^ w - 1 - n) w (omega arith) in
          ap (bits_of w) (reading-negative w n h ∙ turned n (2 ^ w) below) ∙ back (2 ^ w) n ((2 ^ w - 1 - n) % 2 ^ w) below low_is)
    ]
  where
    turned : (a p : ℕ) → a < p → pos a -ℤ pos p ≡ negsuc (p - 1 - a)
    turned a p h = omega (arith, ints)

    back : (p a low : ℕ) → a < p → low ≡ p - 1 - a → p - 1 - low ≡ a
    back p a low h e = omega arith

-- a value at the width of `cvt`
pub reading-cvt : (signed : Bool) (w n : ℕ) → n < 2 ^ w → (let r = if signed then w else w + 1 in reading true r (bits_of r (reading signed w n))) ≡ reading signed w n
reading-cvt true w n below = ap (reading true w) (bits_of-reading w n below)
reading-cvt false w n below = reading-pos (w + 1) n (omega (arith, below, pow-add 2 w 1))

-- the negative of a value, one bit wider
pub reading-negated : (signed : Bool) (w n : ℕ) → n < 2 ^ w → reading true (w + 1) (bits_of (w + 1) (neg_ℤ (reading signed w n))) ≡ neg_ℤ (reading signed w n)
reading-negated false w n below = reading-neg (w + 1) n (omega (arith, below, pow-add 2 w 1))
reading-negated true w n below =
    elim (cases_lt (2 * n) (2 ^ w)) [
      | inl h ↦ at (pos n) (reading-not_negative w n h) (reading-neg (w + 1) n (omega (arith, below, pow-add 2 w 1)))
      | inr h ↦ at (neg_ℤ (pos (2 ^ w - n))) (reading-negative w n h ∙ turned n (2 ^ w) below)
          (rw neg_ℤ-neg_ℤ (reading-pos (w + 1) (2 ^ w - n) (omega (arith, below, h, pow-add 2 w 1, pow_pos w))))
    ]
  where
    turned : (a p : ℕ) → a < p → pos a -ℤ pos p ≡ neg_ℤ (pos (p - a))
    turned a p h = omega (arith, ints)

    at : (z : ℤ) → reading true w n ≡ z → reading true (w + 1) (bits_of (w + 1) (neg_ℤ z)) ≡ neg_ℤ z → reading true (w + 1) (bits_of (w + 1) (neg_ℤ (reading true w n))) ≡ neg_ℤ (reading true w n)
    at z e h = let P : ℤ → Type 0 = λ x. reading true (w + 1) (bits_of (w + 1) (neg_ℤ x)) ≡ neg_ℤ x in subst P (sym e) h
