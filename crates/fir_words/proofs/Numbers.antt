-- A text spells a number exactly where it is the number in decimal.
use Rattle.std.proofs.Common.{◌≡◌, ◌∙◌, ◌⊎◌, ◌&&◌, ◌||◌, ◌==◌, ◌<◌, ◌^◌, ◌*◌, ◌+◌, ◌-◌, ℕ, zero, suc, [], ◌∷◌, Bool, true, false, not, Some, None, refl, sym, ap, subst, inl, inr, length, get_or, arith, ltb-true, lt-ltb}
use Rattle.std.specs.Prelude.{decimal, if◌then◌else◌, nat_lt}
use Rattle.std.specs.List.{list_all}
use Rattle.std.proofs.lemmas.Bool.Decides.{nat_tests}
use Rattle.std.proofs.lemmas.Fmt.{decimal-digits_value, decimal_digit, decimal_nonempty, digits_decimal, digits_value-decimal, first_decimal}
use Rattle.std.proofs.lemmas.Str.Parse.{FoldsDigits, IsDigitsTest, IsNumeralModel, numerals_by_fold}
use Rattle.clap.specs.Words.{Text}
use Rattle.clap.specs.Walk.{is_empty}
use Rattle.fir_base.specs.Bytes.{is_digit}
use Rattle.fir_base.specs.Digits.{decimal_value}
use Rattle.fir_base.proofs.Decimals.{decimal_from}
use Rattle.fir_base.proofs.Tests.{both}
use Rattle.fir_words.specs.Commands.{is_decimal, number_of}
use Rattle.fir_words.specs.working.Laws.{NumberIsDecimal, begins_with_dash}

both_true : (a b : Bool) → a ≡ true → b ≡ true → (a && b) ≡ true
both_true true b p q = q
both_true false b p q = cc

-- ---- digits and the numbers that they spell, as std has them

abbrev AreDigits : Text → Type 0
AreDigits ds = list_all is_digit ds ≡ true

tells_digits : IsDigitsTest AreDigits
tells_digits = record {
  empty = refl;
  parts = λ c cs are. let two = both (is_digit c) (list_all is_digit cs) are in let p : is_digit c ≡ true = two.0 in (grind (arith, nat_tests), two.1);
  more = λ c cs within are. both_true (is_digit c) (list_all is_digit cs) (grind (arith, nat_tests)) are;
}

folds_digits : FoldsDigits decimal_from
folds_digits = record {
  empty = λ n. refl;
  more = λ n c cs within. let e : 10 * n + (c - 48) ≡ n * 10 + (c - 48) = omega arith in ap (λ m. decimal_from m cs) e;
}

numerals : IsNumeralModel AreDigits decimal_value
numerals = numerals_by_fold AreDigits tells_digits decimal_from folds_digits

-- ---- a text without a zero before others

empty_or : (d : ℕ) (ds : Text) → (is_empty ds || not (d == 48)) ≡ true → d ≡ 48 → length (d ∷ ds) ≡ 1
empty_or d [] passes is = refl
empty_or d (e ∷ es) passes is = absurd (grind (arith, nat_tests))

no_zero_before : (ds : Text) → is_decimal ds ≡ true → get_or ds 0 0 ≡ 48 → length ds ≡ 1
no_zero_before [] is zero_first = cc
no_zero_before (d ∷ ds) is zero_first = empty_or d ds (both _ _ is).1 zero_first

digits_of_decimal : (ds : Text) → is_decimal ds ≡ true → AreDigits ds × (0 < length ds)
digits_of_decimal [] is = cc
digits_of_decimal (d ∷ ds) is = ((both _ _ is).0, omega arith)

one_or_more : (d : ℕ) (ds : Text) → (length (d ∷ ds) ≡ 1) ⊎ (48 < d) → (is_empty ds || not (d == 48)) ≡ true
one_or_more d [] lead = refl
one_or_more d (e ∷ es) (inl one) = absurd (omega arith)
one_or_more d (e ∷ es) (inr more) = grind (arith, nat_tests)

is_decimal_by : (ds : Text) → AreDigits ds → 0 < length ds → (length ds ≡ 1) ⊎ (48 < get_or ds 0 0) → is_decimal ds ≡ true
is_decimal_by [] are some lead = absurd (omega arith)
is_decimal_by (d ∷ ds) are some lead = both_true _ _ are (one_or_more d ds lead)

-- ---- both ways

taken_value : (b : Bool) (v n : ℕ) → (if b then Some v else None) ≡ Some n → (b ≡ true) × (v ≡ n)
taken_value true v n is = (refl, cc)
taken_value false v n is = cc

spelled : (text : Text) (n : ℕ) → number_of text ≡ Some n → (text ≡ decimal n) × (n < 2 ^ 32)
spelled text n is =
    let taken = taken_value (is_decimal text && nat_lt (decimal_value text) (2 ^ 32)) (decimal_value text) n is in
    let passed = both (is_decimal text) (nat_lt (decimal_value text) (2 ^ 32)) taken.0 in
    let digits = digits_of_decimal text passed.0 in
    let small : decimal_value text < 2 ^ 32 = ltb-true (decimal_value text) (2 ^ 32) passed.1 in
    let value : decimal_value text ≡ n = taken.1 in (
      sym (decimal-digits_value numerals text digits.0 digits.1 (no_zero_before text passed.0) (omega arith)) ∙ ap decimal value,
      omega arith,
    )

first_digit : (n : ℕ) → n < 2 ^ 32 → (length (decimal n) ≡ 1) ⊎ (48 < get_or (decimal n) 0 0)
first_digit zero small = inl (ap length (decimal_digit 0 (omega arith)))
first_digit (suc n) small = inr (first_decimal (suc n) (omega arith) (omega arith))

decimal_is : (n : ℕ) → n < 2 ^ 32 → is_decimal (decimal n) ≡ true
decimal_is n small =
    is_decimal_by (decimal n) (digits_decimal numerals n (omega arith)) (decimal_nonempty n (omega arith)) (first_digit n small)

taken_by : (b : Bool) (v n : ℕ) → b ≡ true → v ≡ n → (if b then Some v else None) ≡ Some n
taken_by true v n is same = ap Some same
taken_by false v n is same = cc

pub decimal_spells : (n : ℕ) → n < 2 ^ 32 → number_of (decimal n) ≡ Some n
decimal_spells n small =
    let value : decimal_value (decimal n) ≡ n = digits_value-decimal numerals n (omega arith) in
    let below : nat_lt (decimal_value (decimal n)) (2 ^ 32) ≡ true = lt-ltb (decimal_value (decimal n)) (2 ^ 32) (omega arith) in
    taken_by (is_decimal (decimal n) && nat_lt (decimal_value (decimal n)) (2 ^ 32)) (decimal_value (decimal n)) n
    (both_true _ _ (decimal_is n small) below) value

pub number_is_decimal : NumberIsDecimal
number_is_decimal text n = (spelled text n, λ is. subst (λ t. number_of t ≡ Some n) (sym is.0) (decimal_spells n is.1))

-- a number does not begin with a dash

no_dash : (ds : Text) → AreDigits ds → begins_with_dash ds ≡ false
no_dash [] are = refl
no_dash (d ∷ ds) are = let p : is_digit d ≡ true = (both (is_digit d) (list_all is_digit ds) are).0 in grind (arith, nat_tests)

pub decimal_is_plain : (n : ℕ) → n < 2 ^ 32 → begins_with_dash (decimal n) ≡ false
decimal_is_plain n small = no_dash (decimal n) (digits_decimal numerals n (omega arith))
