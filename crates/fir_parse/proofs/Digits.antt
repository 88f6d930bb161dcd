-- The digits of a radix, and whether their number is in range.
use Rattle.std.proofs.Common.{◌≡◌, ℕ, zero, suc, ◌+◌, ◌*◌, ◌^◌, ◌<◌, ◌≤◌, Bool, true, false, cond, List, [], ◌∷◌, Option, Some, None, length, drop, get_or, refl, sym, ap, ◌∙◌, arith}
use Rattle.std.specs.Prelude.{nat_eq, nat_lt, if◌then◌else◌}
use Rattle.std.proofs.Math.Seq.{drop-cons}
use Rattle.std.proofs.lemmas.Bool.{ltb-false, ltb-true, le-ltb}
use Rattle.std.proofs.lemmas.List.{drop_all}
use Rattle.std.proofs.lemmas.Option.{cond_some}
use Rattle.fir_base.specs.Digits.{digit_value}
use Rattle.fir_parse.specs.Numbers.{next_value, digits_from, digits_value, is_in_range}
use Rattle.fir_parse.specs.working.Ranges.{number_within}

pub no_digits : (radix : ℕ) (ds : List ℕ) → digits_from radix None ds ≡ None
no_digits radix [] = refl
no_digits radix (d ∷ ds) = refl

pub first_digit : (radix : ℕ) (ds : List ℕ) → nat_eq (length ds) 0 ≡ false → digits_value radix ds ≡ digits_from radix (Some 0) ds
first_digit radix [] h = absurd cc
first_digit radix (d ∷ ds) h = refl

pub next_of_radix : (radix n i : ℕ) (ds : List ℕ) → i < length ds → digits_from radix (Some n) (drop i ds) ≡ digits_from radix (next_value radix n (digit_value (get_or ds i 0))) (drop (i + 1) ds)
next_of_radix radix n i ds h =
    ap (digits_from radix (Some n)) (drop-cons ds i 0 h) ∙ ap (λ j. digits_from radix (next_value radix n (digit_value (get_or ds i 0))) (drop j ds)) (let e : suc i ≡ i + 1 = omega arith in e)

pub last_of_radix : (radix n i : ℕ) (ds : List ℕ) → length ds ≤ i → digits_from radix (Some n) (drop i ds) ≡ Some n
last_of_radix radix n i ds h = ap (digits_from radix (Some n)) (drop_all i ds h)

-- ---- what is in range

not_in_range : (b : Bool) (n : ℕ) → cond b (Some n) None ≡ None → b ≡ false
not_in_range true n e = absurd cc
not_in_range false n e = refl

grown : (n radix d : ℕ) → d < radix → n ≤ n * radix + d
grown n zero d h = omega (arith, h)
grown n (suc r) d h = grind arith

next_if : (b : Bool) (n radix d : ℕ) → nat_lt d radix ≡ b → number_within (Some n) ≡ None → number_within (if b then Some (n * radix + d) else None) ≡ None
next_if false n radix d t h = refl
next_if true n radix d t h =
    let large = ltb-false n (2 ^ 128) (not_in_range (is_in_range n) n h) in
    let more = grown n radix d (ltb-true d radix t) in
    rw (le-ltb (n * radix + d) (2 ^ 128) (omega (arith, large, more))) refl

next_too_large : (radix n : ℕ) (o : Option ℕ) → number_within (Some n) ≡ None → number_within (next_value radix n o) ≡ None
next_too_large radix n None h = refl
next_too_large radix n (Some d) h = next_if (nat_lt d radix) n radix d refl h

-- a number that is out of range, or none, stays so with more digits
pub too_large : (radix : ℕ) (o : Option ℕ) (ds : List ℕ) → number_within o ≡ None → number_within (digits_from radix o ds) ≡ None
too_large radix None ds h = ap number_within (no_digits radix ds)
too_large radix (Some n) [] h = h
too_large radix (Some n) (d ∷ ds) h = too_large radix (next_value radix n (digit_value d)) ds (next_too_large radix n (digit_value d) h)

-- a number that is in range is the number
pub in_range_is : (o : Option ℕ) (n : ℕ) → number_within o ≡ Some n → (is_in_range n ≡ true) × (o ≡ Some n)
in_range_is None n h = absurd cc
in_range_is (Some m) n h = let p = cond_some (is_in_range m) m n h in (ap is_in_range (sym p.1) ∙ p.0, ap (λ x. Some x) p.1)

pub stays_in_range : (n : ℕ) → is_in_range n ≡ true → number_within (Some n) ≡ Some n
stays_in_range n h = rw h refl
