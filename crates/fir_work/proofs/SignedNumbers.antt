-- Numbers as the low bits of the integers that they stand for.
use Rattle.std.proofs.Common.{◌≡◌, ℕ, ◌+◌, ◌-◌, ◌*◌, ◌/◌, ◌%◌, max, ◌^◌, ◌<◌, ◌≤◌, ◌==◌, Bool, true, false, if◌then◌else◌, arith, refl, ap, sym, ◌∙◌, pos, negsuc, neg_ℤ, suc, subst, ◌-ℤ◌, ◌*ℤ◌, inl, inr}
use Rattle.std.specs.Prelude.{bit_and}
use Rattle.std.specs.Ordering.{int_eq}
use Rattle.std.proofs.Math.IntN.{negsuc-*ℤ-pos}
use Rattle.std.proofs.lemmas.Bool.{cases_lt}
use Rattle.std.proofs.lemmas.Bool.Decides.{Decides-eqb, Decides-int_eq, same_from_decides}
use Rattle.std.proofs.lemmas.Int.{ints}
use Rattle.std.proofs.lemmas.Nat.{pow-add, pow_pos, mod_below, shl_whole, shl_below, shr_below, shr_high, shr_split}
use Rattle.fir_bits.proofs.Masks.{and_greatest}
use Rattle.fir_bits.proofs.Readings.{negative, not_negative}
use Rattle.fir_bits.specs.Integers.{bits_of, reading, shifted_down}
use Rattle.fir_work.proofs.Numbers.{mod_wide}

-- the low r bits of a number less 2 ^ r are its own
lowered_bits : (r a : ℕ) → a < 2 ^ r → bits_of r (pos a -ℤ pos (2 ^ r)) ≡ a
lowered_bits r a below =
    let low_is = mod_wide (2 ^ r - 1 - a) r r (omega arith) (omega arith) in
    ap (bits_of r) (turned a (2 ^ r) below) ∙ back (2 ^ r) a ((2 ^ r - 1 - a) % 2 ^ r) below low_is
  where
    turned : (a p : ℕ) → a < p → pos a -ℤ pos p ≡ negsuc (p - 1 - a)
    turned a p h = omega (arith, ints)

    back : (p a low : ℕ) → a < p → low ≡ p - 1 - a → p - 1 - low ≡ a
    back p a low h e = omega arith

-- so the integer of a number has its bits, where that is signed too
pub own_bits : (s : Bool) (w n : ℕ) → n < 2 ^ w → bits_of w (reading s w n) ≡ n
own_bits false w n below = mod_wide n w w below (omega arith)
own_bits true w n below =
    elim (cases_lt (2 * n) (2 ^ w)) [
      | inl h ↦ ap bits (not_negative w n h) ∙ mod_wide n w w below (omega arith)
      | inr h ↦ ap bits (negative w n h) ∙ lowered_bits w n below
    ]
  where
    bits : Bool → ℕ
    bits b = bits_of w (if b then pos n -ℤ pos (2 ^ w) else pos n)

-- shifted up by n bits
pub shift_up : (s : Bool) (w r x n : ℕ) → x < 2 ^ w → r ≡ w + n → r ≤ 128 → (x * 2 ^ n) % 2 ^ 128 ≡ bits_of r (reading s w x *ℤ pos (2 ^ n))
shift_up s w r x n below wide narrow =
    let less = shl_below x w n below in
    let small : x * 2 ^ n < 2 ^ r = rw wide less in
    shl_whole x w n 128 below (omega arith) ∙ sym (by s small)
  where
    parts : (a k q : ℕ) → (pos a -ℤ pos (a + suc k)) *ℤ pos q ≡ pos (a * q) -ℤ pos ((a + suc k) * q)
    parts a k q = ap (λ z. z *ℤ pos q) (below_zero a k) ∙ negsuc-*ℤ-pos k q ∙ spread (a * q) (suc k * q) ((a + suc k) * q) (omega arith)
      where
        below_zero : (b j : ℕ) → pos b -ℤ pos (b + suc j) ≡ negsuc j
        below_zero b j = omega (arith, ints)

        spread : (b c d : ℕ) → d ≡ b + c → neg_ℤ (pos c) ≡ pos b -ℤ pos d
        spread b c d e = omega (arith, ints)

    product : (a p q : ℕ) → a < p → (pos a -ℤ pos p) *ℤ pos q ≡ pos (a * q) -ℤ pos (p * q)
    product a p q h =
        let e : a + suc (p - a - 1) ≡ p = omega arith in
        subst (λ (m : ℕ). (pos a -ℤ pos m) *ℤ pos q ≡ pos (a * q) -ℤ pos (m * q)) e (parts a (p - a - 1) q)

    bits : Bool → ℕ
    bits b = bits_of r ((if b then pos x -ℤ pos (2 ^ w) else pos x) *ℤ pos (2 ^ n))

    plain : x * 2 ^ n < 2 ^ r → bits false ≡ x * 2 ^ n
    plain small = mod_wide (x * 2 ^ n) r r small (omega arith)

    by : (b : Bool) → x * 2 ^ n < 2 ^ r → bits_of r (reading b w x *ℤ pos (2 ^ n)) ≡ x * 2 ^ n
    by false small = plain small
    by true small =
        let powers : 2 ^ w * 2 ^ n ≡ 2 ^ r = sym (ap (λ k. 2 ^ k) wide ∙ pow-add 2 w n) in
        elim (cases_lt (2 * x) (2 ^ w)) [
          | inl h ↦ ap bits (not_negative w x h) ∙ plain small
          | inr h ↦ ap bits (negative w x h)
              ∙ ap (bits_of r) (product x (2 ^ w) (2 ^ n) below ∙ ap (λ k. pos (x * 2 ^ n) -ℤ pos k) powers) ∙ lowered_bits r (x * 2 ^ n) small
        ]

-- two numbers of one type are one where their integers are
pub same_test : (s : Bool) (w x y : ℕ) → x < 2 ^ w → y < 2 ^ w → (x == y) ≡ int_eq (reading s w x) (reading s w y)
same_test s w x y hx hy =
    let test = Decides-int_eq (reading s w x) (reading s w y) in
    same_from_decides (x == y) (int_eq (reading s w x) (reading s w y)) (Decides-eqb x y)
    (λ t. sym (own_bits s w x hx) ∙ ap (bits_of w) (test.0 t) ∙ own_bits s w y hy, λ e. test.1 (ap (reading s w) e))

-- and down by fewer than there are
pub shift_down : (s : Bool) (w r g x n : ℕ) → x < 2 ^ w → n < w → r ≡ max (w - n) 1 → g + 1 ≡ 2 ^ r → bit_and (x / 2 ^ n) g ≡ bits_of r (shifted_down (reading s w x) n)
shift_down s w r g x n below less wide is = and_greatest r g (x / 2 ^ n) is ∙ by s
  where
    bits : Bool → ℕ
    bits b = bits_of r (shifted_down (if b then pos x -ℤ pos (2 ^ w) else pos x) n)

    turned : (a p : ℕ) → a < p → pos a -ℤ pos p ≡ negsuc (p - 1 - a)
    turned a p h = omega (arith, ints)

    -- what the shifted number lacks to the greatest is what the number lacks, shifted
    rest : (q t p m : ℕ) → x ≡ q * p + t → t < p → q < m → m * p - 1 - x ≡ (m - 1 - q) * p + (p - 1 - t)
    rest q t p m e h l =
        let k : (m - 1 - q) + q + 1 ≡ m = omega arith in
        let times : ((m - 1 - q) + q + 1) * p ≡ m * p = ap (λ i. i * p) k in
        omega arith

    high : bits_of r (negsuc ((2 ^ w - 1 - x) / 2 ^ n)) ≡ x / 2 ^ n % 2 ^ r
    high =
        let r_is : r ≡ w - n = omega arith in
        let parts : 2 ^ w ≡ 2 ^ r * 2 ^ n = ap (λ i. 2 ^ i) (let joined : w ≡ r + n = omega arith in joined) ∙ pow-add 2 r n in
        let split = shr_split x n in
        let t_below = mod_below x (2 ^ n) (pow_pos n) in
        let q_below = shr_below x r n (omega (arith, below, parts, pow-add 2 r n)) in
        let lacks : 2 ^ w - 1 - x ≡ (2 ^ r - 1 - x / 2 ^ n) * 2 ^ n + (2 ^ n - 1 - x % 2 ^ n) =
        ap (λ i. i - 1 - x) parts ∙ rest (x / 2 ^ n) (x % 2 ^ n) (2 ^ n) (2 ^ r) (sym split) t_below q_below in
        let shifted : (2 ^ w - 1 - x) / 2 ^ n ≡ 2 ^ r - 1 - x / 2 ^ n =
        ap (λ i. i / 2 ^ n) lacks ∙ shr_high (2 ^ r - 1 - x / 2 ^ n) n (2 ^ n - 1 - x % 2 ^ n) (omega arith) in
        let low = mod_wide (2 ^ r - 1 - x / 2 ^ n) r r (omega arith) (omega arith) in
        let own = mod_wide (x / 2 ^ n) r r q_below (omega arith) in
        let same : (2 ^ w - 1 - x) / 2 ^ n % 2 ^ r ≡ 2 ^ r - 1 - x / 2 ^ n = ap (λ i. i % 2 ^ r) shifted ∙ low in
        omega (arith, same, own, q_below)

    by : (b : Bool) → x / 2 ^ n % 2 ^ r ≡ bits_of r (shifted_down (reading b w x) n)
    by false = refl
    by true =
        elim (cases_lt (2 * x) (2 ^ w)) [
          | inl h ↦ sym (ap bits (not_negative w x h))
          | inr h ↦ sym (ap bits (negative w x h) ∙ ap (λ z. bits_of r (shifted_down z n)) (turned x (2 ^ w) below) ∙ high)
        ]
