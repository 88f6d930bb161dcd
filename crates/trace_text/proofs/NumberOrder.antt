-- The order of numbers of decimal digits without a zero at the front.
-- More digits make the greater number; of as many digits the first that differ decide.
use Rattle.std.proofs.Common.{unwrap_or, ◌≡◌, ◌≢◌, ℕ, ◌+◌, ◌-◌, ◌*◌, ◌^◌, ◌<◌, ◌≤◌, List, [], ◌∷◌, length, get_or, true, nat_lt, Some, sym, ap, ◌∙◌, subst, inl, inr, arith}
use Rattle.std.specs.List.{list_all}
use Rattle.std.specs.declared.cmp.Ordering.{Ordering}
use Rattle.std.specs.declared.cmp.Ordering.TheVariants.{Less, Equal, Greater}
use Rattle.std.specs.Ordering.{nat_cmp, is_lt, is_some_and, partial_ordering_then}
use Rattle.std.specs.Cmp.Lexicographic.{slice_partial_cmp}
use Rattle.std.proofs.Math.Nat.{pow-suc, pow-le-pow_right, mul-le-mul_right}
use Rattle.std.proofs.lemmas.Bool.{and_parts, leb-true, lt-ltb, le-ltb, cases_order, cases_lt, cond-true}
use Rattle.std.proofs.lemmas.Bool.Decides.{nat_tests}
use Rattle.fir_base.specs.Bytes.{is_digit}
use Rattle.trace_text.specs.Spelling.{digit_number, number_from, decimal_of}
use Rattle.trace_text.proofs.Numbers.{all_ten, number_below}

-- what a digit is worth
worth : (b : ℕ) → is_digit b ≡ true → (48 ≤ b) × (b ≤ 57) × (digit_number b ≡ b - 48)
worth b h =
    let p = and_parts _ _ h in
    (leb-true 48 b p.0, leb-true b 57 p.1, ap (λ d. unwrap_or d 0) (cond-true (is_digit b) (Some (b - 48)) _ h))

above_step : (n v p x : ℕ) → (10 * n + v) * p ≤ x → n * (p * 10) ≤ x
above_step n v p x l = omega arith

below : (n : ℕ) (ds : List ℕ) → list_all is_digit ds ≡ true → number_from 10 n ds < (n + 1) * 10 ^ length ds
below n ds h = number_below 10 n ds (all_ten ds ∙ h)

above : (n : ℕ) (ds : List ℕ) → n * 10 ^ length ds ≤ number_from 10 n ds
above n [] = omega arith
above n (d ∷ ds) = rw pow-suc (above_step n (digit_number d) (10 ^ length ds) _ (above (10 * n + digit_number d) ds))

longer_step : (v p q x y : ℕ) → 1 ≤ v → p ≤ q → x < (0 + 1) * p → v * q ≤ y → x < y
longer_step v p q x y h l below above = let m : 1 * q ≤ v * q = mul-le-mul_right q h in omega arith

-- more digits, of which the first is no zero
longer : (xs ys : List ℕ) → list_all is_digit xs ≡ true → list_all is_digit ys ≡ true → get_or ys 0 0 ≢ 48 → length xs < length ys → decimal_of xs < decimal_of ys
longer xs [] h k first l = absurd (omega arith)
longer xs (y ∷ ys) h k first l =
    let w = worth y (and_parts (is_digit y) (list_all is_digit ys) k).0 in
    longer_step (0 + digit_number y) (10 ^ length xs) (10 ^ length ys) _ _ (omega (arith, w.0, w.1, w.2, first)) (pow-le-pow_right (omega arith) (omega arith))
    (below 0 xs h) (above (0 + digit_number y) ys)

-- where the lengths differ, they decide
pub less_in_length : (xs ys : List ℕ) → list_all is_digit xs ≡ true → list_all is_digit ys ≡ true → get_or xs 0 0 ≢ 48 → get_or ys 0 0 ≢ 48 → length xs ≢ length ys
    → nat_lt (length xs) (length ys) ≡ nat_lt (decimal_of xs) (decimal_of ys)
less_in_length xs ys h k f g unequal =
    elim (cases_lt (length xs) (length ys)) [
      | inl l ↦ lt-ltb (length xs) (length ys) l ∙ sym (lt-ltb (decimal_of xs) (decimal_of ys) (longer xs ys h k g l))
      | inr l ↦
          let less : decimal_of ys < decimal_of xs = longer ys xs k h f (omega arith) in
          le-ltb (length xs) (length ys) l ∙ sym (le-ltb (decimal_of xs) (decimal_of ys) (omega arith))
    ]

before_step : (n v w p x y : ℕ) → v < w → x < (10 * n + v + 1) * p → (10 * n + w) * p ≤ y → x < y
before_step n v w p x y h below above = let m : (10 * n + v + 1) * p ≤ (10 * n + w) * p = mul-le-mul_right p (omega arith) in omega arith

-- a smaller digit makes the smaller number, whatever as many digits follow
before : (n x y : ℕ) (xs ys : List ℕ) → is_digit x ≡ true → is_digit y ≡ true → list_all is_digit xs ≡ true → length xs ≡ length ys → x < y
    → number_from 10 n (x ∷ xs) < number_from 10 n (y ∷ ys)
before n x y xs ys a b h long l =
    let v = worth x a in
    let w = worth y b in
    let room = below (10 * n + digit_number x) xs h in
    before_step n (digit_number x) (digit_number y) (10 ^ length xs) _ _ (omega (arith, v.0, v.1, v.2, w.0, w.2)) room
    (subst (λ k. (10 * n + digit_number y) * 10 ^ k ≤ number_from 10 (10 * n + digit_number y) ys) (sym long) (above (10 * n + digit_number y) ys))

is_less : (x y : ℕ) → x < y → nat_cmp x y ≡ Less
is_less x y h = grind (arith, nat_tests)

is_equal : (x y : ℕ) → x ≡ y → nat_cmp x y ≡ Equal
is_equal x y h = grind (arith, nat_tests)

is_greater : (x y : ℕ) → y < x → nat_cmp x y ≡ Greater
is_greater x y h = grind (arith, nat_tests)

-- of as many digits the first that differ decide
pub less_in_digits : (n : ℕ) (xs ys : List ℕ) → list_all is_digit xs ≡ true → list_all is_digit ys ≡ true → length xs ≡ length ys
    → is_some_and is_lt (slice_partial_cmp (λ x y. Some (nat_cmp x y)) xs ys) ≡ nat_lt (number_from 10 n xs) (number_from 10 n ys)
less_in_digits n [] [] h k long = sym (le-ltb n n (omega arith))
less_in_digits n [] (y ∷ ys) h k long = absurd (omega arith)
less_in_digits n (x ∷ xs) [] h k long = absurd (omega arith)
less_in_digits n (x ∷ xs) (y ∷ ys) h k long =
    let p = and_parts (is_digit x) (list_all is_digit xs) h in
    let q = and_parts (is_digit y) (list_all is_digit ys) k in
    let decided = λ (o : Ordering). is_some_and is_lt (partial_ordering_then (Some o) (slice_partial_cmp (λ x y. Some (nat_cmp x y)) xs ys)) in
    elim (cases_order x y) [
      | inl e ↦
          let next : number_from 10 n (y ∷ xs) ≡ number_from 10 n (x ∷ xs) = ap (λ d. number_from 10 n (d ∷ xs)) (sym e) in
          ap decided (is_equal x y e) ∙ less_in_digits (10 * n + digit_number y) xs ys p.1 q.1 (omega arith)
          ∙ ap (λ m. nat_lt m (number_from 10 n (y ∷ ys))) next
      | inr (inl l) ↦ ap decided (is_less x y l) ∙ sym (lt-ltb _ _ (before n x y xs ys p.0 q.0 p.1 (omega arith) l))
      | inr (inr l) ↦
          let less : number_from 10 n (y ∷ ys) < number_from 10 n (x ∷ xs) = before n y x ys xs q.0 p.0 q.1 (omega arith) l in
          ap decided (is_greater x y l) ∙ sym (le-ltb (number_from 10 n (x ∷ xs)) (number_from 10 n (y ∷ ys)) (omega arith))
    ]
