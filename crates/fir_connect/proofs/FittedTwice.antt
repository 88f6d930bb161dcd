-- A number at a greater width, and then at another, is the number at that one. At its own width it is itself.
use Rattle.std.proofs.Common.{◌≡◌, ℕ, ◌+◌, ◌-◌, ◌*◌, ◌^◌, ◌%◌, ◌<◌, ◌≤◌, Bool, true, false, ◌&&◌, if◌then◌else◌, nat_le, inl, inr, refl, sym, ap, ◌∙◌, arith}
use Rattle.std.proofs.Math.Nat.{mod-eq_of_lt}
use Rattle.std.proofs.Math.Pow.{mod-mod-pow}
use Rattle.std.proofs.lemmas.Bool.{cases_lt, le-leb, leb-true, lt-leb}
use Rattle.std.proofs.lemmas.Nat.{mod_below, pow_pos}
use Rattle.fir_bits.proofs.Powers.{pow_le}
use Rattle.fir_bits.proofs.Readings.{low_bits-extended, negative, not_negative}
use Rattle.fir_bits.specs.Values.{extended, fitted, is_negative, low_bits}

-- filled with ones, or with zeros
extended_up : (w n to : ℕ) → 2 ^ w ≤ 2 * n → extended true w n to ≡ n + (2 ^ to - 2 ^ w)
extended_up w n to h = let top = negative w n h in rw top refl

extended_same : (w n to : ℕ) → 2 * n < 2 ^ w → extended true w n to ≡ n
extended_same w n to h = let top = not_negative w n h in rw top refl

extended_below : (signed : Bool) (w n to : ℕ) → n < 2 ^ w → w ≤ to → extended signed w n to < 2 ^ to
extended_below signed w n to below wider = filled (signed && is_negative w n)
  where
    filled : (b : Bool) → (if b then n + (2 ^ to - 2 ^ w) else n) < 2 ^ to
    filled true = omega (arith, pow_le w to wider)
    filled false = omega (arith, pow_le w to wider)

extended_again : (signed : Bool) (w n v to : ℕ) → w ≤ v → v ≤ to → extended signed v (extended signed w n v) to ≡ extended signed w n to
extended_again false w n v to wider wide = refl
extended_again true w n v to wider wide =
    let first = pow_le w v wider in
    let second = pow_le v to wide in
    elim (cases_lt (2 * n) (2 ^ w)) [
      | inl h ↦ ap (λ m. extended true v m to) (extended_same w n v h) ∙ extended_same v n to (omega arith) ∙ sym (extended_same w n to h)
      | inr h ↦ ap (λ m. extended true v m to) (extended_up w n v h) ∙ extended_up v (n + (2 ^ v - 2 ^ w)) to (omega arith) ∙ omega arith
          ∙ sym (extended_up w n to h)
    ]

fitted_wider : (signed : Bool) (w n to : ℕ) → w ≤ to → fitted signed w n to ≡ extended signed w n to
fitted_wider signed w n to h = let test = le-leb w to h in rw test refl

pub fitted_own : (signed : Bool) (w n : ℕ) → fitted signed w n w ≡ n
fitted_own signed w n = fitted_wider signed w n w (omega arith) ∙ own (signed && is_negative w n)
  where
    own : (b : Bool) → (if b then n + (2 ^ w - 2 ^ w) else n) ≡ n
    own true = omega arith
    own false = refl

fitted_narrower : (signed : Bool) (w n to : ℕ) → to < w → fitted signed w n to ≡ n % 2 ^ to
fitted_narrower signed w n to h = let test = lt-leb w to h in rw test refl

pub fitted_below : (signed : Bool) (w n to : ℕ) → n < 2 ^ w → fitted signed w n to < 2 ^ to
fitted_below signed w n to below = by (nat_le w to) refl
  where
    by : (b : Bool) → nat_le w to ≡ b → (if b then extended signed w n to else low_bits to n) < 2 ^ to
    by true e = extended_below signed w n to below (leb-true w to e)
    by false e = mod_below n (2 ^ to) (pow_pos to)

low_low : (n v w : ℕ) → w ≤ v → n % 2 ^ v % 2 ^ w ≡ n % 2 ^ w
low_low n v w h = let sum : v - w + w ≡ v = omega arith in ap (λ x. n % 2 ^ x % 2 ^ w) (sym sum) ∙ mod-mod-pow n (v - w) w

-- the low bits of what is extended
cut : (signed : Bool) (w n v to : ℕ) → n < 2 ^ w → w ≤ v → to < v → extended signed w n v % 2 ^ to ≡ fitted signed w n to
cut signed w n v to below wider less =
    elim (cases_lt to w) [
      | inl h ↦ sym (low_low (extended signed w n v) w to (omega arith)) ∙ ap (λ x. x % 2 ^ to) (low_bits-extended signed w n v below wider)
          ∙ sym (fitted_narrower signed w n to h)
      | inr h ↦ ap (λ x. x % 2 ^ to) (sym (extended_again signed w n to v h (omega arith)))
          ∙ low_bits-extended signed to (extended signed w n to) v (extended_below signed w n to below h) (omega arith) ∙ sym (fitted_wider signed w n to h)
    ]

pub fitted_again : (signed : Bool) (w n v to : ℕ) → n < 2 ^ w → w ≤ v → fitted signed v (fitted signed w n v) to ≡ fitted signed w n to
fitted_again signed w n v to below wider =
    ap (λ x. fitted signed v x to) (fitted_wider signed w n v wider)
    ∙ elim (cases_lt to v) [
      | inl h ↦ fitted_narrower signed v (extended signed w n v) to h ∙ cut signed w n v to below wider h
      | inr h ↦ fitted_wider signed v (extended signed w n v) to h ∙ extended_again signed w n v to wider h ∙ sym (fitted_wider signed w n to (omega arith))
    ]

pub fitted_zero : (signed : Bool) (w to : ℕ) → fitted signed w 0 to ≡ 0
fitted_zero signed w to = by (nat_le w to)
  where
    none : extended signed w 0 to ≡ 0
    none = let top = not_negative w 0 (pow_pos w) in rw top (zero signed)
      where
        zero : (b : Bool) → (if b && false then 0 + (2 ^ to - 2 ^ w) else 0) ≡ 0
        zero true = refl
        zero false = refl

    by : (b : Bool) → (if b then extended signed w 0 to else low_bits to 0) ≡ 0
    by true = none
    by false = mod-eq_of_lt (pow_pos to)
