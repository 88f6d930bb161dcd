-- Integers by numbers of 128 bits that wrap.
use Rattle.std.proofs.Common.{◌≡◌, ℕ, zero, suc, add-zero, add-one, ◌+◌, ◌-◌, ◌*◌, ◌/◌, ◌%◌, ◌^◌, ◌<◌, ◌≤◌, Bool, true, if◌then◌else◌, arith, refl, ap, sym, ◌∙◌, ℤ, pos, negsuc, neg_ℤ, ◌+ℤ◌, ◌-ℤ◌, ◌*ℤ◌, inl, inr}
use Rattle.std.specs.Prelude.{bit_and}
use Rattle.std.specs.Int.{cast_signed, w128}
use Rattle.std.proofs.Math.IntN.{pos-*ℤ-negsuc, negsuc-*ℤ-pos}
use Rattle.std.proofs.lemmas.Bool.{cases_lt, lt-ltb, le-ltb, eq-eqb, ne_eqb}
use Rattle.std.proofs.lemmas.Int.{ints}
use Rattle.std.proofs.lemmas.Nat.{and_mask, pow-add, mod_low, mod-pow-add, mod_below, pow_pos, shr_split}
use Rattle.fir_bits.proofs.Below.{widened_below}
use Rattle.fir_bits.proofs.Powers.{pow_le}
use Rattle.fir_bits.proofs.Readings.{negative, not_negative, reading-extended}
use Rattle.fir_bits.specs.Values.{extended}
use Rattle.fir_bits.specs.Integers.{bits_of, reading}
use Rattle.fir_work.specs.working.Works.{filled, less}
use Rattle.fir_work.proofs.Numbers.{less_greater, less_smaller, mod_wide}
use Rattle.fir_work.proofs.FitForms.{top_bit}

-- 2 ^ 128, and the low bits of what has multiples of it
low_of_wrapped : (n r : ℕ) → r ≤ 128 → n % 2 ^ 128 % 2 ^ r ≡ n % 2 ^ r
low_of_wrapped n r narrow =
    let parts : 128 ≡ 128 - r + r = omega arith in
    ap (λ k. n % 2 ^ k % 2 ^ r) parts ∙ ap (λ k. k % 2 ^ r) (mod-pow-add n (128 - r) r) ∙ mod_low (n / 2 ^ r % 2 ^ (128 - r)) r (n % 2 ^ r) (mod_below n (2 ^ r) (pow_pos r))

low_of_more : (k n r : ℕ) → r ≤ 128 → (k * 2 ^ 128 + n) % 2 ^ r ≡ n % 2 ^ r
low_of_more k n r narrow =
    let split = shr_split n r in
    let below = mod_below n (2 ^ r) (pow_pos r) in
    let parts : 2 ^ 128 ≡ 2 ^ (128 - r) * 2 ^ r = ap (λ i. 2 ^ i) (rejoined r narrow) ∙ pow-add 2 (128 - r) r in
    ap (λ i. i % 2 ^ r) (joined k (2 ^ 128) (2 ^ (128 - r)) (2 ^ r) n (n / 2 ^ r) (n % 2 ^ r) parts split) ∙ mod_low (k * 2 ^ (128 - r) + n / 2 ^ r) r (n % 2 ^ r) below
  where
    rejoined : (b : ℕ) → b ≤ 128 → 128 ≡ 128 - b + b
    rejoined b h = omega arith

    joined : (j t m p a q s : ℕ) → t ≡ m * p → q * p + s ≡ a → j * t + a ≡ (j * m + q) * p + s
    joined j t m p a q s e f = rw (e, sym f) (omega arith)

-- numbers that lack one to a multiple of 2 ^ r have all low bits together
complements : (r u v m : ℕ) → u + v + 1 ≡ m → m % 2 ^ r ≡ 0 → u % 2 ^ r + v % 2 ^ r + 1 ≡ 2 ^ r
complements r u v m together none =
    let s = u % 2 ^ r in
    let t = v % 2 ^ r in
    let first = shr_split u r in
    let second = shr_split v r in
    let s_below = mod_below u (2 ^ r) (pow_pos r) in
    let t_below = mod_below v (2 ^ r) (pow_pos r) in
    elim (cases_lt (s + t + 1) (2 ^ r)) [
      | inl h ↦ (let parts : m ≡ (u / 2 ^ r + v / 2 ^ r) * 2 ^ r + (s + t + 1) = omega arith in
          let low = mod_low (u / 2 ^ r + v / 2 ^ r) r (s + t + 1) h in
          let same : m % 2 ^ r ≡ s + t + 1 = ap (λ i. i % 2 ^ r) parts ∙ low in
          absurd (omega (arith, same, none)))
      | inr h ↦ (let parts : m ≡ (u / 2 ^ r + v / 2 ^ r + 1) * 2 ^ r + (s + t + 1 - 2 ^ r) = omega arith in
          let low = mod_low (u / 2 ^ r + v / 2 ^ r + 1) r (s + t + 1 - 2 ^ r) (omega arith) in
          let same : m % 2 ^ r ≡ s + t + 1 - 2 ^ r = ap (λ i. i % 2 ^ r) parts ∙ low in
          omega (arith, same, none, h))
    ]

-- the low bits of a number less a multiple of 2 ^ 128
residue : (r u k : ℕ) → r ≤ 128 → bits_of r (pos u -ℤ pos (k * 2 ^ 128)) ≡ u % 2 ^ r
residue r u k narrow =
    elim (cases_lt u (k * 2 ^ 128)) [
      | inl h ↦ ap (bits_of r) (below_zero u (k * 2 ^ 128) h) ∙ turned (k * 2 ^ 128 - u - 1) (omega arith)
      | inr h ↦ ap (bits_of r) (from_zero u (k * 2 ^ 128) h) ∙ sym (low_of_more k (u - k * 2 ^ 128) r narrow) ∙ ap (λ i. i % 2 ^ r) (omega arith)
    ]
  where
    below_zero : (a p : ℕ) → a < p → pos a -ℤ pos p ≡ negsuc (p - a - 1)
    below_zero a p h = omega (arith, ints)

    from_zero : (a p : ℕ) → p ≤ a → pos a -ℤ pos p ≡ pos (a - p)
    from_zero a p h = omega (arith, ints)

    turned : (v : ℕ) → u + v + 1 ≡ k * 2 ^ 128 → 2 ^ r - 1 - v % 2 ^ r ≡ u % 2 ^ r
    turned v together =
        let multiple : (k * 2 ^ 128) % 2 ^ r ≡ 0 =
        ap (λ i. i % 2 ^ r) (sym (add-zero (k * 2 ^ 128))) ∙ low_of_more k 0 r narrow ∙ mod_wide 0 0 r (omega arith) (omega arith) in
        omega (arith, complements r u v (k * 2 ^ 128) together multiple)

-- a number of w bits filled with its sign
pub filled_is : (w x : ℕ) → x < 2 ^ w → w ≤ 128 → filled x (w - 1) ≡ extended true w x 128
filled_is w x below narrow =
    let powers = pow_le w 128 narrow in
    elim (top_bit w x below) [
      | inl h ↦ rw (eq-eqb (x / 2 ^ (w - 1)) 0 h.0, le-ltb (2 ^ w - 1) (2 * x) (omega (arith, h.1))) refl
      | inr h ↦ rw (ne_eqb (x / 2 ^ (w - 1)) 0 h.0, lt-ltb (2 ^ w - 1) (2 * x) (omega (arith, h.1))) (halves x (2 ^ (w - 1)) (2 ^ w) (double w x below h.1) below h.1 powers)
    ]
  where
    double : (v n : ℕ) → n < 2 ^ v → 2 ^ v ≤ 2 * n → 2 ^ v ≡ 2 ^ (v - 1) + 2 ^ (v - 1)
    double zero n h l = absurd (omega arith)
    double (suc k) n h l =
        let e : suc k - 1 ≡ k = omega arith in
        let twice : 2 ^ suc k ≡ 2 ^ k * 2 ^ 1 = ap (λ i. 2 ^ i) (sym (add-one k)) ∙ pow-add 2 k 1 in
        rw e (omega arith)

    halves : (n t p : ℕ) → p ≡ t + t → n < p → p ≤ 2 * n → p ≤ 2 ^ 128 → less (less n t) t ≡ n + (2 ^ 128 - p)
    halves n t p e h l small =
        ap (λ i. less i t) (less_greater n t (omega arith) (omega arith)) ∙ less_smaller (n - t) t (omega arith) (omega arith) ∙ omega arith

-- an integer is a number of 128 bits less a multiple of 2 ^ 128
pub wraps : (w x : ℕ) → x < 2 ^ w → w ≤ 128 → (e : ℕ) × (reading true w x ≡ pos (extended true w x 128) -ℤ pos (e * 2 ^ 128))
wraps w x below narrow =
    let wide = extended true w x 128 in
    let same = sym (reading-extended true w x 128 below narrow) in
    elim (cases_lt (2 * wide) (2 ^ 128)) [
      | inl h ↦ (0, same ∙ ap (λ (b : Bool). if b then pos wide -ℤ pos (2 ^ 128) else pos wide) (not_negative 128 wide h) ∙ plain wide)
      | inr h ↦ (1, same ∙ ap (λ (b : Bool). if b then pos wide -ℤ pos (2 ^ 128) else pos wide) (negative 128 wide h))
    ]
  where
    plain : (a : ℕ) → pos a ≡ pos a -ℤ pos (0 * 2 ^ 128)
    plain a = omega (arith, ints)

-- sums, differences and negatives of such integers, cut to r bits
module _ (r : ℕ) (narrow : r ≤ 128) where
  cut : (n : ℕ) → bit_and (n % 2 ^ 128) (2 ^ r - 1) ≡ n % 2 ^ r
  cut n = and_mask (n % 2 ^ 128) r ∙ low_of_wrapped n r narrow

  pub sum_bits : (x y : ℤ) (a b e f : ℕ) → x ≡ pos a -ℤ pos (e * 2 ^ 128) → y ≡ pos b -ℤ pos (f * 2 ^ 128)
      → bit_and ((a + b) % 2 ^ 128) (2 ^ r - 1) ≡ bits_of r (x +ℤ y)
  sum_bits x y a b e f is_x is_y = cut (a + b) ∙ sym (ap (bits_of r) (together x y a b e f is_x is_y) ∙ residue r (a + b) (e + f) narrow)
    where
      together : (u v : ℤ) (c d i j : ℕ) → u ≡ pos c -ℤ pos (i * 2 ^ 128) → v ≡ pos d -ℤ pos (j * 2 ^ 128) → u +ℤ v ≡ pos (c + d) -ℤ pos ((i + j) * 2 ^ 128)
      together u v c d i j h k = omega (arith, ints, h, k)

  pub difference_bits : (x y : ℤ) (a b e f : ℕ) → x ≡ pos a -ℤ pos (e * 2 ^ 128) → y ≡ pos b -ℤ pos (f * 2 ^ 128) → b < 2 ^ 128
      → bit_and (less a b) (2 ^ r - 1) ≡ bits_of r (x -ℤ y)
  difference_bits x y a b e f is_x is_y small =
      cut (a + (2 ^ 128 - b)) ∙ sym (low_of_more f (a + (2 ^ 128 - b)) r narrow)
      ∙ sym (ap (bits_of r) (apart x y a b e f is_x is_y small) ∙ residue r (f * 2 ^ 128 + (a + (2 ^ 128 - b))) (e + 1) narrow)
    where
      apart : (u v : ℤ) (c d i j : ℕ) → u ≡ pos c -ℤ pos (i * 2 ^ 128) → v ≡ pos d -ℤ pos (j * 2 ^ 128) → d < 2 ^ 128
          → u -ℤ v ≡ pos (j * 2 ^ 128 + (c + (2 ^ 128 - d))) -ℤ pos ((i + 1) * 2 ^ 128)
      apart u v c d i j h k l = omega (arith, ints, h, k, l)

  pub negative_bits : (x : ℤ) (a e : ℕ) → x ≡ pos a -ℤ pos (e * 2 ^ 128) → a < 2 ^ 128 → bit_and (less 0 a) (2 ^ r - 1) ≡ bits_of r (neg_ℤ x)
  negative_bits x a e is small =
      difference_bits (pos 0) x 0 a 0 e refl is small ∙ ap (bits_of r) (from_zero x)
    where
      from_zero : (u : ℤ) → pos 0 -ℤ u ≡ neg_ℤ u
      from_zero u = omega (arith, ints)

  pub product_bits : (x y : ℤ) (a b e f : ℕ) → x ≡ pos a -ℤ pos (e * 2 ^ 128) → y ≡ pos b -ℤ pos (f * 2 ^ 128)
      → bit_and ((a * b) % 2 ^ 128) (2 ^ r - 1) ≡ bits_of r (x *ℤ y)
  product_bits x y a b e f is_x is_y = cut (a * b) ∙ by x y is_x is_y
    where
      natural : (c i n : ℕ) → pos n ≡ pos c -ℤ pos (i * 2 ^ 128) → c ≡ n + i * 2 ^ 128
      natural c i n h = omega (arith, ints, h)

      lacking : (c i n : ℕ) → negsuc n ≡ pos c -ℤ pos (i * 2 ^ 128) → c + suc n ≡ i * 2 ^ 128
      lacking c i n h = omega (arith, ints, h)

      under_zero : (m u t : ℕ) → u + m ≡ t → neg_ℤ (pos m) ≡ pos u -ℤ pos t
      under_zero m u t h = omega (arith, ints, h)

      natural_both : (c d m n i j : ℕ) → c ≡ m + i * 2 ^ 128 → d ≡ n + j * 2 ^ 128 → c * d ≡ (m * j + i * n + i * j * 2 ^ 128) * 2 ^ 128 + m * n
      natural_both c d m n i j h k = rw (h, k) (omega arith)

      -- a natural number times one below 0
      one_lacks : (c d m n i j : ℕ) → c ≡ m + i * 2 ^ 128 → d + suc n ≡ j * 2 ^ 128 → c * d + m * suc n ≡ (m * j + i * d) * 2 ^ 128
      one_lacks c d m n i j h k =
          let times : m * (d + suc n) ≡ m * (j * 2 ^ 128) = ap (λ t. m * t) k in
          rw h (omega (arith, times))

      both_lack : (c d m n i j : ℕ) → c + suc m ≡ i * 2 ^ 128 → d + suc n ≡ j * 2 ^ 128 → (i * suc n + suc m * j) * 2 ^ 128 + c * d ≡ (i * j * 2 ^ 128) * 2 ^ 128 + suc m * suc n
      both_lack c d m n i j h k =
          let all : (c + suc m) * (d + suc n) ≡ (i * 2 ^ 128) * (j * 2 ^ 128) = rw (h, k) refl in
          let first : (c + suc m) * suc n ≡ (i * 2 ^ 128) * suc n = ap (λ t. t * suc n) h in
          let second : suc m * (d + suc n) ≡ suc m * (j * 2 ^ 128) = ap (λ t. suc m * t) k in
          omega (arith, all, first, second)

      by : (u v : ℤ) → u ≡ pos a -ℤ pos (e * 2 ^ 128) → v ≡ pos b -ℤ pos (f * 2 ^ 128) → (a * b) % 2 ^ r ≡ bits_of r (u *ℤ v)
      by (pos m) (pos n) h k =
          ap (λ t. t % 2 ^ r) (natural_both a b m n e f (natural a e m h) (natural b f n k)) ∙ low_of_more (m * f + e * n + e * f * 2 ^ 128) (m * n) r narrow
      by (pos m) (negsuc n) h k =
          sym
          (ap (bits_of r) (pos-*ℤ-negsuc m n ∙ under_zero (m * suc n) (a * b) _ (one_lacks a b m n e f (natural a e m h) (lacking b f n k)))
          ∙ residue r (a * b) (m * f + e * b) narrow)
      by (negsuc m) (pos n) h k =
          let turned : a * b + suc m * n ≡ (n * e + f * a) * 2 ^ 128 = omega (arith, one_lacks b a n m f e (natural b f n k) (lacking a e m h)) in
          sym (ap (bits_of r) (negsuc-*ℤ-pos m n ∙ under_zero (suc m * n) (a * b) _ turned) ∙ residue r (a * b) (n * e + f * a) narrow)
      by (negsuc m) (negsuc n) h k =
          sym (low_of_more (e * suc n + suc m * f) (a * b) r narrow)
          ∙ ap (λ t. t % 2 ^ r) (both_lack a b m n e f (lacking a e m h) (lacking b f n k)) ∙ low_of_more (e * f * 2 ^ 128) (suc m * suc n) r narrow

-- a number of 128 bits as a signed one
pub wide_below : (w x : ℕ) → x < 2 ^ w → w ≤ 128 → extended true w x 128 < 2 ^ 128
wide_below w x below narrow = widened_below (record { signed = true; value = record { width = w; number = x } }) 128 (record { narrow = narrow; below = below }) narrow

cast_wide : (n : ℕ) → n < 2 ^ 128 → cast_signed w128 n ≡ reading true 128 n
cast_wide n below =
    elim (cases_lt (2 * n) (2 ^ 128)) [
      | inl h ↦ rw (lt-ltb n (2 ^ 127) (omega arith)) (sym (ap (λ (b : Bool). if b then pos n -ℤ pos (2 ^ 128) else pos n) (not_negative 128 n h)))
      | inr h ↦ rw (le-ltb n (2 ^ 127) (omega arith))
          (turned n (2 ^ 128) below ∙ sym (ap (λ (b : Bool). if b then pos n -ℤ pos (2 ^ 128) else pos n) (negative 128 n h)))
    ]
  where
    turned : (a p : ℕ) → a < p → negsuc (p - suc a) ≡ pos a -ℤ pos p
    turned a p h = omega (arith, ints)

pub cast_is : (w x : ℕ) → x < 2 ^ w → w ≤ 128 → cast_signed w128 (extended true w x 128) ≡ reading true w x
cast_is w x below narrow = cast_wide (extended true w x 128) (wide_below w x below narrow) ∙ reading-extended true w x 128 below narrow
