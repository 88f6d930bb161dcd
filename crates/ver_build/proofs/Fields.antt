-- Some bits of a number, and a sign above them.
-- The bits of a number that is extended by a sign are those below and copies of the sign above.
use Rattle.std.proofs.Common.{◌≡◌, ℕ, zero, suc, ◌+◌, ◌-◌, ◌*◌, ◌/◌, ◌%◌, ◌^◌, ◌<◌, ◌≤◌, min, Bool, true, false, ◌&&◌, if◌then◌else◌, refl, sym, ap, ◌∙◌, inl, inr, arith}
use Rattle.std.proofs.Math.Nat.{mod-eq_of_lt}
use Rattle.std.proofs.Math.Pow.{mod-mod-pow}
use Rattle.std.proofs.lemmas.Bool.{cases_lt}
use Rattle.std.proofs.lemmas.Nat.{pow_pos, pow-add, mod_below, mod-pow-add, field_of, shr-shr, div-mul-add, mod-mul-add}
use Rattle.fir_bits.specs.Values.{extended, is_negative}
use Rattle.fir_bits.specs.Operators.{flag}
use Rattle.fir_bits.proofs.Readings.{negative, not_negative}
use Rattle.ver_ast.specs.AtomValues.{copies}
use Rattle.ver_build.proofs.Residues.{below_power}

pub wide : (n v w : ℕ) → n < 2 ^ v → v ≤ w → n % 2 ^ w ≡ n
wide n v w h k = mod-eq_of_lt (below_power n v w h k)

-- the low bits of low bits
pub low_low : (n v w : ℕ) → w ≤ v → n % 2 ^ v % 2 ^ w ≡ n % 2 ^ w
low_low n v w h = let sum : v - w + w ≡ v = omega arith in ap (λ (x : ℕ). n % 2 ^ x % 2 ^ w) (sym sum) ∙ mod-mod-pow n (v - w) w

-- bits below the k-th are those of the low bits
pub low_field : (n m k lo w : ℕ) → n % 2 ^ k ≡ m % 2 ^ k → lo + w ≤ k → n / 2 ^ lo % 2 ^ w ≡ m / 2 ^ lo % 2 ^ w
low_field n m k lo w same h =
    sym (field_of n w lo) ∙ ap (λ (x : ℕ). x / 2 ^ lo) (sym (low_low n k (w + lo) (omega arith)) ∙ ap (λ (x : ℕ). x % 2 ^ (w + lo)) same
    ∙ low_low m k (w + lo) (omega arith))
    ∙ field_of m w lo

-- bits on both sides of the k-th
pub split_field : (n k lo w : ℕ) → lo < k → k < lo + w → n / 2 ^ lo % 2 ^ w ≡ n / 2 ^ k % 2 ^ (lo + w - k) * 2 ^ (k - lo) + n / 2 ^ lo % 2 ^ (k - lo)
split_field n k lo w h above =
    let low = k - lo in
    let count : w ≡ lo + w - k + low = omega arith in
    let place : lo + low ≡ k = omega arith in
    ap (λ (x : ℕ). n / 2 ^ lo % 2 ^ x) count ∙ mod-pow-add (n / 2 ^ lo) (lo + w - k) low
    ∙ ap (λ (x : ℕ). x % 2 ^ (lo + w - k) * 2 ^ low + n / 2 ^ lo % 2 ^ low) (shr-shr n lo low ∙ ap (λ (x : ℕ). n / 2 ^ x) place)

-- and above it
pub high_field : (n k lo w : ℕ) → k ≤ lo → n / 2 ^ lo % 2 ^ w ≡ n / 2 ^ k / 2 ^ (lo - k) % 2 ^ w
high_field n k lo w h =
    let place : k + (lo - k) ≡ lo = omega arith in
    ap (λ (x : ℕ). x % 2 ^ w) (ap (λ (x : ℕ). n / 2 ^ x) (sym place) ∙ sym (shr-shr n k (lo - k)))

-- so many copies of a sign
abbrev pub fill : Bool → ℕ → ℕ
fill s w = if s then 2 ^ w - 1 else 0

pub fill-none : (s : Bool) → fill s 0 ≡ 0
fill-none true = refl
fill-none false = refl

pub fill-one : (s : Bool) → fill s 1 ≡ flag s
fill-one true = refl
fill-one false = refl

pub fill-below : (s : Bool) (w : ℕ) → fill s w < 2 ^ w
fill-below true w = omega (arith, pow_pos w)
fill-below false w = pow_pos w

-- 2 ^ (u + w) - 1 in two parts
ones_split : (u w : ℕ) → 2 ^ (u + w) - 1 ≡ (2 ^ u - 1) * 2 ^ w + (2 ^ w - 1)
ones_split u w =
    let one : 2 ^ u - 1 + 1 ≡ 2 ^ u = omega (arith, pow_pos u) in
    let product : 2 ^ u * 2 ^ w ≡ (2 ^ u - 1) * 2 ^ w + 2 ^ w = ap (λ (x : ℕ). x * 2 ^ w) (sym one) ∙ omega arith in
    omega (arith, pow-add 2 u w, product, pow_pos w)

pub fill-split : (s : Bool) (u w : ℕ) → fill s (u + w) ≡ fill s u * 2 ^ w + fill s w
fill-split true u w = ones_split u w
fill-split false u w = omega arith

-- some of them
pub fill-low : (s : Bool) (u w : ℕ) → w ≤ u → fill s u % 2 ^ w ≡ fill s w
fill-low s u w h =
    let sum : u - w + w ≡ u = omega arith in
    ap (λ (x : ℕ). fill s x % 2 ^ w) (sym sum) ∙ ap (λ (x : ℕ). x % 2 ^ w) (fill-split s (u - w) w)
    ∙ mod-mul-add (fill s (u - w)) (2 ^ w) (fill s w) (fill-below s w)

pub fill-high : (s : Bool) (u j : ℕ) → j ≤ u → fill s u / 2 ^ j ≡ fill s (u - j)
fill-high s u j h =
    let sum : u - j + j ≡ u = omega arith in
    ap (λ (x : ℕ). fill s x / 2 ^ j) (sym sum) ∙ ap (λ (x : ℕ). x / 2 ^ j) (fill-split s (u - j) j)
    ∙ div-mul-add (fill s (u - j)) (2 ^ j) (fill s j) (fill-below s j)

pub copies-flag : (s : Bool) (w : ℕ) → copies w 1 (flag s) ≡ fill s w
copies-flag true zero = refl
copies-flag false zero = refl
copies-flag s (suc w) =
    let once : w * 1 ≡ w = omega arith in
    let split : fill s (1 + w) ≡ fill s 1 * 2 ^ w + fill s w = fill-split s 1 w in
    let next : fill s (1 + w) ≡ fill s (suc w) = ap (fill s) (omega arith) in
    ap (λ (x : ℕ). flag s * 2 ^ x + copies w 1 (flag s)) once ∙ ap (λ (x : ℕ). flag s * 2 ^ w + x) (copies-flag s w)
    ∙ ap (λ (x : ℕ). x * 2 ^ w + fill s w) (sym (fill-one s)) ∙ sym split ∙ next

-- an extended number is the sign's copies above its bits
pub extended-split : (signed : Bool) (k n w : ℕ) → k ≤ w → extended signed k n w ≡ fill (signed && is_negative k n) (w - k) * 2 ^ k + n
extended-split signed k n w h = above (signed && is_negative k n)
  where
    above : (s : Bool) → (if s then n + (2 ^ w - 2 ^ k) else n) ≡ fill s (w - k) * 2 ^ k + n
    above true =
        let sum : w - k + k ≡ w = omega arith in
        let whole : 2 ^ w ≡ 2 ^ (w - k + k) = ap (λ (x : ℕ). 2 ^ x) (sym sum) in
        omega (arith, ones_split (w - k) k, whole, pow_pos k)
    above false = omega arith

-- the top bit of k bits is the sign
pub top_is_sign : (n k : ℕ) → 1 ≤ k → n / 2 ^ (k - 1) % 2 ^ 1 ≡ flag (is_negative k (n % 2 ^ k))
top_is_sign n k some =
    let x = n % 2 ^ k in
    let below : x < 2 ^ k = mod_below n (2 ^ k) (pow_pos k) in
    let again : n % 2 ^ k ≡ x % 2 ^ k = sym (mod-eq_of_lt below) in
    let sum : k - 1 + 1 ≡ k = omega arith in
    let double : 2 ^ k ≡ 2 ^ (k - 1) * 2 ^ 1 = ap (λ (y : ℕ). 2 ^ y) (sym sum) ∙ pow-add 2 (k - 1) 1 in
    low_field n x k (k - 1) 1 again (omega arith)
    ∙ elim (cases_lt (2 * x) (2 ^ k)) [
      | inl h ↦ (let none : x / 2 ^ (k - 1) ≡ 0 = quotient 0 x (2 ^ (k - 1)) x (omega arith) (omega arith) in
          let test = not_negative k x h in
          rw (none, test) refl)
      | inr h ↦ (let one : x / 2 ^ (k - 1) ≡ 1 = quotient 1 x (2 ^ (k - 1)) (x - 2 ^ (k - 1)) (omega arith) (omega arith) in
          let test = negative k x h in
          rw (one, test) refl)
    ]
  where
    quotient : (q x p rest : ℕ) → x ≡ q * p + rest → rest < p → x / p ≡ q
    quotient q x p rest e small = ap (λ (y : ℕ). y / p) e ∙ div-mul-add q p rest small

-- a number n whose low k bits are those of m, and copies of a sign above, u bits in all
module _ (s : Bool) (n m k u : ℕ) (inside : k ≤ u) (is : n ≡ fill s (u - k) * 2 ^ k + m % 2 ^ k) where
  above_is : n / 2 ^ k ≡ fill s (u - k)
  above_is = ap (λ (x : ℕ). x / 2 ^ k) is ∙ div-mul-add (fill s (u - k)) (2 ^ k) (m % 2 ^ k) (mod_below m (2 ^ k) (pow_pos k))

  below_is : n % 2 ^ k ≡ m % 2 ^ k
  below_is = ap (λ (x : ℕ). x % 2 ^ k) is ∙ mod-mul-add (fill s (u - k)) (2 ^ k) (m % 2 ^ k) (mod_below m (2 ^ k) (pow_pos k))

  module _ (lo w : ℕ) (end : lo + w ≤ u) where
    pub field_past : k ≤ lo → n / 2 ^ lo % 2 ^ w ≡ fill s w
    field_past past =
        high_field n k lo w past ∙ ap (λ (x : ℕ). x / 2 ^ (lo - k) % 2 ^ w) above_is
        ∙ ap (λ (x : ℕ). x % 2 ^ w) (fill-high s (u - k) (lo - k) (omega arith)) ∙ fill-low s (u - k - (lo - k)) w (omega arith)

    -- of which c bits are among the low ones
    pub field_across : (c : ℕ) → lo < k → c ≡ min (lo + w) k - lo → n / 2 ^ lo % 2 ^ w ≡ fill s (w - c) * 2 ^ c + m / 2 ^ lo % 2 ^ c
    field_across c before count =
        elim (cases_lt k (lo + w)) [
          | inl h ↦ (let low : k - lo ≡ c = omega arith in
              let high : lo + w - k ≡ w - c = omega arith in
              split_field n k lo w before h
              ∙ ap (λ (x : ℕ). x % 2 ^ (lo + w - k) * 2 ^ (k - lo) + n / 2 ^ lo % 2 ^ (k - lo)) above_is
              ∙ ap (λ (x : ℕ). x * 2 ^ (k - lo) + n / 2 ^ lo % 2 ^ (k - lo)) (fill-low s (u - k) (lo + w - k) (omega arith))
              ∙ ap (λ (x : ℕ). fill s (lo + w - k) * 2 ^ (k - lo) + x) (low_field n m k lo (k - lo) below_is (omega arith))
              ∙ ap (λ (x : ℕ). fill s x * 2 ^ (k - lo) + m / 2 ^ lo % 2 ^ (k - lo)) high
              ∙ ap (λ (x : ℕ). fill s (w - c) * 2 ^ x + m / 2 ^ lo % 2 ^ x) low)
          | inr h ↦ (let whole : w ≡ c = omega arith in
              let rest : w - c ≡ 0 = omega arith in
              let none : fill s (w - c) ≡ 0 = ap (fill s) rest ∙ fill-none s in
              low_field n m k lo w below_is h ∙ ap (λ (x : ℕ). m / 2 ^ lo % 2 ^ x) whole ∙ rw none (omega arith))
        ]
