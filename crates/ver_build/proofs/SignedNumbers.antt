-- Values at widths, and the integers that they stand for.
-- A value at a width from its own on stands for the same integer. Values are equal where their integers are.
-- Quotients and remainders stay in the range of a width.
use Rattle.std.proofs.Common.{◌≡◌, ℕ, zero, suc, ◌+◌, ◌-◌, ◌*◌, ◌%◌, ◌/◌, ◌^◌, ◌<◌, ◌≤◌, Bool, true, false, if◌then◌else◌, ◌&&◌, ◌==◌, ◌⊎◌, inl, inr, arith, refl, sym, ap, ◌∙◌, subst, ℤ, pos, negsuc, ◌-ℤ◌, neg_ℤ, unsigned_abs}
use Rattle.std.specs.Prelude.{int_lt, int_le, int_div, int_rem}
use Rattle.std.specs.Ordering.{int_eq}
use Rattle.std.proofs.lemmas.Int.{ints}
use Rattle.std.proofs.lemmas.Nat.{pow_pos, pow_below}
use Rattle.std.proofs.lemmas.Bool.{cases_lt, cases_Bool, le-leb, lt-leb, and_from}
use Rattle.std.proofs.lemmas.Bool.Decides.{same_from_decides, Decides-like, Decides-eqb, Decides-int_eq}
use Rattle.std.proofs.Math.Nat.{mod-eq_of_lt, div-eq_of_lt, div-eq_of_lt-le, div-le_self, mod-le}
use borrow.Author.Differences.{up, down}
use Rattle.fir_bits.specs.Values.{extended, fitted, is_negative}
use Rattle.fir_bits.specs.Integers.{bits_of, reading, quotient, remainder, shifted_down}
use Rattle.fir_bits.proofs.Powers.{pow_le}
use Rattle.fir_bits.proofs.Below.{bits_of-below}
use Rattle.fir_bits.proofs.Readings.{negative, not_negative, reading-extended}
use Rattle.ver_ast.specs.SideValues.{fits_signed}
use Rattle.ver_build.proofs.Residues.{bits_of-reading, split_power}

pub fitted-wider : (signed : Bool) (w n to : ℕ) → w ≤ to → fitted signed w n to ≡ extended signed w n to
fitted-wider signed w n to wider = let test = le-leb w to wider in rw test refl

pub fitted-own : (signed : Bool) (w n : ℕ) → fitted signed w n w ≡ n
fitted-own signed w n = fitted-wider signed w n w (omega arith) ∙ own (signed && is_negative w n)
  where
    own : (b : Bool) → (if b then n + (2 ^ w - 2 ^ w) else n) ≡ n
    own true = omega arith
    own false = refl

pub fitted-narrower : (signed : Bool) (w n to : ℕ) → n < 2 ^ w → to ≤ w → fitted signed w n to ≡ n % 2 ^ to
fitted-narrower signed w n to below narrower =
    elim (cases_lt to w) [
      | inl h ↦ (let test = lt-leb w to h in rw test refl)
      | inr h ↦ (let same : to ≡ w = omega arith in rw same (fitted-own signed w n ∙ sym (mod-eq_of_lt below)))
    ]

pub fitted-below : (signed : Bool) (w n to : ℕ) → n < 2 ^ w → fitted signed w n to < 2 ^ to
fitted-below signed w n to below = rw (← bits_of-reading signed w n to below) (bits_of-below to (reading signed w n))

-- the same integer at a width from its own on
pub reading-fitted : (signed : Bool) (w n to : ℕ) → n < 2 ^ w → w ≤ to → reading signed to (fitted signed w n to) ≡ reading signed w n
reading-fitted signed w n to below wider =
    ap (reading signed to) (fitted-wider signed w n to wider) ∙ reading-extended signed w n to below wider

-- what is extended has its own integer at every other width
pub fitted-extended : (signed : Bool) (w n v to : ℕ) → n < 2 ^ w → w ≤ v → fitted signed v (extended signed w n v) to ≡ fitted signed w n to
fitted-extended signed w n v to below wider =
    let within : extended signed w n v < 2 ^ v = rw (← fitted-wider signed w n v wider) (fitted-below signed w n v below) in
    sym (bits_of-reading signed v (extended signed w n v) to within) ∙ ap (bits_of to) (reading-extended signed w n v below wider)
    ∙ bits_of-reading signed w n to below

-- a value is the low bits of its integer
pub own_bits : (signed : Bool) (w n : ℕ) → n < 2 ^ w → bits_of w (reading signed w n) ≡ n
own_bits signed w n below = bits_of-reading signed w n w below ∙ fitted-own signed w n

-- values of a width are equal where their integers are
pub same_integers : (signed : Bool) (w x y : ℕ) → x < 2 ^ w → y < 2 ^ w → (x == y) ≡ int_eq (reading signed w x) (reading signed w y)
same_integers signed w x y h k =
    same_from_decides (x == y) (int_eq (reading signed w x) (reading signed w y)) (Decides-eqb x y)
    (Decides-like _ (λ e. sym (own_bits signed w x h) ∙ ap (bits_of w) e ∙ own_bits signed w y k) (ap (reading signed w)) (Decides-int_eq _ _))

-- how a number of w bits is read: less 2 ^ w where its top bit is set
read_by_top : (w n : ℕ) → ((2 * n < 2 ^ w) × (reading true w n ≡ pos n)) ⊎ ((2 ^ w ≤ 2 * n) × (reading true w n ≡ pos n -ℤ pos (2 ^ w)))
read_by_top w n =
    elim (cases_lt (2 * n) (2 ^ w)) [
      | inl h ↦ inl (h, let test = not_negative w n h in rw test refl)
      | inr h ↦ inr (h, let test = negative w n h in rw test refl)
    ]

pub reading-zero : (signed : Bool) (w : ℕ) → reading signed w 0 ≡ pos 0
reading-zero false w = refl
reading-zero true w = elim (read_by_top w 0) [ inl s ↦ s.1 | inr s ↦ absurd (omega (arith, s.0, pow_pos w)) ]

-- from - 2 ^ (w - 1) on, and below 2 ^ (w - 1)
pub record IsWithin (w : ℕ) (z : ℤ) : Type 0 where
  pub above : 2 * up z < 2 ^ w
  pub below : 2 * down z ≤ 2 ^ w

-- a number less a greater one
lower : (n p : ℕ) → n < p → pos n -ℤ pos p ≡ negsuc (p - 1 - n)
lower n p h = omega (arith, ints)

pub reading-within : (w n : ℕ) → n < 2 ^ w → IsWithin w (reading true w n)
reading-within w n h =
    elim (read_by_top w n) [
      | inl s ↦ subst (IsWithin w) (sym s.1) (record { above = s.0; below = omega arith })
      | inr s ↦ subst (IsWithin w) (sym (s.1 ∙ lower n (2 ^ w) h)) (record { above = omega arith; below = omega (arith, s.0) })
    ]

pub within-wider : (v w : ℕ) (z : ℤ) → v ≤ w → IsWithin v z → IsWithin w z
within-wider v w z wide is = record { above = omega (arith, is.above, pow_le v w wide); below = omega (arith, is.below, pow_le v w wide) }

-- an integer within a range is read from its low bits
pub reading-bits_of : (w : ℕ) (z : ℤ) → IsWithin w z → reading true w (bits_of w z) ≡ z
reading-bits_of w (pos n) h =
    let low : n % 2 ^ w ≡ n = mod-eq_of_lt (omega (arith, h.above)) in
    ap (reading true w) low
    ∙ elim (read_by_top w n) [ inl s ↦ s.1 | inr s ↦ absurd (omega (arith, h.above, s.0)) ]
reading-bits_of w (negsuc n) h =
    let low : n % 2 ^ w ≡ n = mod-eq_of_lt (omega (arith, h.below)) in
    let same : 2 ^ w - 1 - n % 2 ^ w ≡ 2 ^ w - 1 - n = ap (λ x. 2 ^ w - 1 - x) low in
    ap (reading true w) same
    ∙ elim (read_by_top w (2 ^ w - 1 - n)) [
      | inl s ↦ absurd (omega (arith, h.below, s.0))
      | inr s ↦ s.1 ∙ lower (2 ^ w - 1 - n) (2 ^ w) (omega (arith, pow_pos w)) ∙ ap negsuc (omega (arith, h.below))
    ]

pub fits_within : (w : ℕ) (z : ℤ) → 1 ≤ w → IsWithin w z → fits_signed w z ≡ true
fits_within w z some h =
    let double = split_power w 1 some in
    and_from (int_le (neg_ℤ (pos (2 ^ (w - 1)))) z) (int_lt z (pos (2 ^ (w - 1)))) (grind (arith, ints)) (grind (arith, ints))

-- the last bit of a value that is shifted down by its width or more: the sign bit
pub sign_left : (w n x : ℕ) → 0 < w → w ≤ n → x < 2 ^ w → bits_of 1 (shifted_down (reading true w x) n) ≡ x / 2 ^ (w - 1) % 2 ^ 1
sign_left w n x some wide below =
    let double = split_power w 1 some in
    let powers = pow_le w n wide in
    elim (read_by_top w x) [
      | inl s ↦ (let none : x / 2 ^ n ≡ 0 = div-eq_of_lt (omega arith) in
          let top : x / 2 ^ (w - 1) ≡ 0 = div-eq_of_lt (omega (arith, s.0)) in
          ap (λ z. bits_of 1 (shifted_down z n)) s.1 ∙ ap (λ y. y % 2) none ∙ ap (λ y. y % 2) (sym top))
      | inr s ↦ (let none : (2 ^ w - 1 - x) / 2 ^ n ≡ 0 = div-eq_of_lt (omega (arith, pow_pos w)) in
          let top : x / 2 ^ (w - 1) ≡ 1 = div-eq_of_lt-le (2 ^ (w - 1)) (omega (arith, s.0)) (omega (arith, s.0)) in
          ap (λ z. bits_of 1 (shifted_down z n)) (s.1 ∙ lower x (2 ^ w) below) ∙ ap (λ y. 2 ^ 1 - 1 - y % 2) none ∙ ap (λ y. y % 2) (sym top))
    ]

-- or 0 where there is none
pub none_left : (signed : Bool) (w n x : ℕ) → (signed ≡ false) ⊎ (w ≡ 0) → w ≤ n → x < 2 ^ w → bits_of 1 (shifted_down (reading signed w x) n) ≡ 0
none_left signed w n x plain wide below =
    let powers = pow_le w n wide in
    let none : x / 2 ^ n ≡ 0 = div-eq_of_lt (omega arith) in
    ap (λ z. bits_of 1 (shifted_down z n)) (number signed plain) ∙ ap (λ y. y % 2) none
  where
    number : (signed : Bool) → (signed ≡ false) ⊎ (w ≡ 0) → reading signed w x ≡ pos x
    number false h = refl
    number true (inl h) = cc
    number true (inr h) = elim (read_by_top w x) [ inl s ↦ s.1 | inr s ↦ (let one : 2 ^ w ≡ 1 = ap (λ y. 2 ^ y) h in absurd (omega (arith, s.0))) ]

-- a quotient is no greater than the dividend
abs-int_div : (x y : ℤ) → unsigned_abs (int_div x y) ≤ unsigned_abs x
abs-int_div (pos a) (pos b) = div-le_self a b
abs-int_div (pos a) (negsuc b) = omega (arith, ints, div-le_self a (suc b))
abs-int_div (negsuc a) (pos b) = omega (arith, ints, div-le_self (suc a) b)
abs-int_div (negsuc a) (negsuc b) = div-le_self (suc a) (suc b)

abs_within : (w : ℕ) (z : ℤ) → 2 * unsigned_abs z < 2 ^ w → IsWithin w z
abs_within w (pos n) h = record { above = h; below = omega arith }
abs_within w (negsuc n) h = record { above = omega arith; below = omega arith }

within_abs : (w : ℕ) (z : ℤ) → IsWithin w z → 2 * unsigned_abs z ≤ 2 ^ w
within_abs w (pos n) h = omega (arith, h.above)
within_abs w (negsuc n) h = h.below

-- and fits a greater width
pub int_div-within : (v w : ℕ) (x y : ℤ) → v < w → IsWithin v x → IsWithin w (int_div x y)
int_div-within v w x y wider h = abs_within w (int_div x y) (omega (arith, abs-int_div x y, within_abs v x h, pow_below v w wider))

pub int_rem-within : (w : ℕ) (x y : ℤ) → IsWithin w x → IsWithin w (int_rem x y)
int_rem-within w (pos a) y h = record { above = omega (arith, mod-le a (unsigned_abs y), h.above); below = omega arith }
int_rem-within w (negsuc a) y h = negative_within (suc a % unsigned_abs y) (omega (arith, mod-le (suc a) (unsigned_abs y), h.below))
  where
    negative_within : (n : ℕ) → 2 * n ≤ 2 ^ w → IsWithin w (neg_ℤ (pos n))
    negative_within zero k = record { above = pow_pos w; below = omega arith }
    negative_within (suc n) k = record { above = pow_pos w; below = k }

-- only 0 stands for 0
pub reading-some : (signed : Bool) (w n : ℕ) → n < 2 ^ w → 0 < n → int_eq (reading signed w n) (pos 0) ≡ false
reading-some signed w n below some =
    elim (cases_Bool (int_eq (reading signed w n) (pos 0))) [
      | inl e ↦ (let none : bits_of w (reading signed w n) ≡ 0 % 2 ^ w = ap (bits_of w) ((Decides-int_eq _ _).0 e) in
          absurd (omega (arith, none, own_bits signed w n below, mod-eq_of_lt (pow_pos w))))
      | inr e ↦ e
    ]

pub quotient_is : (x y : ℤ) → int_eq y (pos 0) ≡ false → quotient x y ≡ int_div x y
quotient_is x (pos zero) h = cc
quotient_is x (pos (suc k)) h = refl
quotient_is x (negsuc k) h = refl

pub remainder_is : (x y : ℤ) → int_eq y (pos 0) ≡ false → remainder x y ≡ int_rem x y
remainder_is x (pos zero) h = cc
remainder_is x (pos (suc k)) h = refl
remainder_is x (negsuc k) h = refl
