-- Constants, by their digits.
use Rattle.std.proofs.Common.{◌≡◌, ◌≢◌, ℕ, ◌+◌, ◌*◌, ◌<◌, Bool, true, false, ◌||◌, List, [], ◌∷◌, ◌++◌, length, map, fold, get_or, drop, Option, Some, None, refl, ap, ◌∙◌, subst, arith}
use Rattle.std.specs.Prelude.{nat_eq, nat_lt, is_some, take_while, slice_index}
use Rattle.std.specs.List.{AllByRecursion}
use Rattle.std.proofs.lemmas.Bool.Decides.{nat_tests}
use Rattle.std.proofs.lemmas.List.{get_or-append-add}
use Rattle.std.proofs.Math.Seq.{drop-append-add}
use Rattle.fir_base.specs.Bytes.{is_digit}
use Rattle.fir_base.specs.Digits.{digit_value, decimal_value}
use Rattle.ver_ast.specs.Tokens.{Base, binary, decimal, hexadecimal, radix, letter, AreDigits, IsConstant}
use Rattle.ver_ast.specs.working.TokenSteps.{digit_below}
use Rattle.ver_lex.specs.working.Bytes.{is_base, radix_of, is_digit_below}
use Rattle.ver_lex.specs.working.Fronts.{digits_length}
use Rattle.ver_lex.specs.working.View.{digit_or_zero, number_in, width_of, value_of}
use Rattle.ver_lex.proofs.Runs.{AllPass, run_taken}

-- ---- bases and their digits

-- the base of a letter
pub record HasBase (l : ℕ) : Type 0 where
  pub base : Base
  pub letter_is : l ≡ letter base
  pub radix_is : radix_of l ≡ radix base

pub base_of_letter : (l : ℕ) → is_base l ≡ true → HasBase l
base_of_letter l h = by_tests (nat_eq l 98) refl (nat_eq l 100) refl (nat_eq l 104) refl h
  where
    same : (c : ℕ) → nat_eq l c ≡ true → l ≡ c
    same c e = grind (arith, nat_tests)

    by_tests : (b : Bool) → nat_eq l 98 ≡ b → (d : Bool) → nat_eq l 100 ≡ d → (x : Bool) → nat_eq l 104 ≡ x → (b || (d || x)) ≡ true → HasBase l
    by_tests true e d f x g k = record { base = binary; letter_is = same 98 e; radix_is = rw e refl }
    by_tests false e true f x g k = record { base = decimal; letter_is = same 100 f; radix_is = rw (e, f) refl }
    by_tests false e false f true g k = record { base = hexadecimal; letter_is = same 104 g; radix_is = rw (e, f) refl }
    by_tests false e false f false g k = absurd cc

pub base_is_one : (base : Base) → (is_base (letter base) ≡ true) × (radix_of (letter base) ≡ radix base)
base_is_one binary = (refl, refl)
base_is_one decimal = (refl, refl)
base_is_one hexadecimal = (refl, refl)

-- the number of a digit of any kind
abbrev digit_number : ℕ → ℕ
digit_number b = digit_or_zero (digit_value b)

below : (limit : ℕ) (o : Option ℕ) → is_some (digit_below limit o) ≡ true → (o ≡ Some (digit_or_zero o)) × (digit_or_zero o < limit)
below limit None h = absurd cc
below limit (Some d) h = by_test (nat_lt d limit) refl
  where
    by_test : (t : Bool) → nat_lt d limit ≡ t → (Some d ≡ Some d) × (d < limit)
    by_test true e = (refl, grind (arith, nat_tests))
    by_test false e = let no : is_some (digit_below limit (Some d)) ≡ false = rw e refl in absurd cc

pub digit_numbers : (limit : ℕ) (ds : List ℕ) → AllPass (is_digit_below limit) ds
    → (map digit_value ds ≡ map Some (map digit_number ds)) × AllByRecursion (λ d. d < limit) (map digit_number ds)
digit_numbers limit [] h = (refl, tt)
digit_numbers limit (b ∷ bs) h =
    let first = below limit (digit_value b) h.0 in
    let rest = digit_numbers limit bs h.1 in
    let value : digit_value b ≡ Some (digit_number b) = first.0 in
    let values : map digit_value bs ≡ map Some (map digit_number bs) = rest.0 in
    let all : map digit_value (b ∷ bs) ≡ map Some (map digit_number (b ∷ bs)) = cc in
    (all, (first.1, rest.1))

pub number_folds : (r n : ℕ) (ds : List ℕ) → fold (λ n b. r * n + digit_or_zero (digit_value b)) n ds ≡ fold (λ n d. r * n + d) n (map digit_number ds)
number_folds r n [] = refl
number_folds r n (b ∷ bs) = number_folds r (r * n + digit_number b) bs

-- ---- a constant

module _ (size digits : List ℕ) (l : ℕ) where
  abbrev whole : List ℕ
  whole = size ++ 39 ∷ l ∷ digits

  module _ (are : AreDigits size) where
    size_taken : take_while is_digit whole ≡ size
    size_taken = run_taken is_digit size (39 ∷ l ∷ digits) are.1 refl

    pub size_length : digits_length whole ≡ length size
    size_length = ap length size_taken

    width_read : width_of whole ≡ decimal_value size
    width_read = ap decimal_value size_taken

    letter_read : slice_index whole (digits_length whole + 1) ≡ l
    letter_read = ap (λ (k : ℕ). get_or whole (k + 1) 0) size_length ∙ get_or-append-add size (39 ∷ l ∷ digits) 1 0

    digits_read : drop (digits_length whole + 2) whole ≡ digits
    digits_read = ap (λ (k : ℕ). drop (k + 2) whole) size_length ∙ drop-append-add size (39 ∷ l ∷ digits) 2

    value_read : value_of whole ≡ number_in (radix_of l) digits
    value_read =
        ap (λ (x : ℕ). number_in (radix_of x) (drop (digits_length whole + 2) whole)) letter_read
        ∙ ap (number_in (radix_of l)) digits_read

    pub constant_made : (b : HasBase l) → digits ≢ [] → AllPass (is_digit_below (radix_of l)) digits
        → (c : IsConstant (width_of whole) (value_of whole) whole) × (c.base ≡ b.base)
    constant_made b some all =
        let numbers = digit_numbers (radix_of l) digits all in (
          record {
            size = size;
            base = b.base;
            digits = digits;
            numbers = map digit_number digits;
            bytes = ap (λ (x : ℕ). size ++ 39 ∷ x ∷ digits) b.letter_is;
            is_size = are;
            width_is = width_read;
            some = some;
            are_digits = numbers.0;
            below = subst (λ (r : ℕ). AllByRecursion (λ d. d < r) (map digit_number digits)) b.radix_is numbers.1;
            value_is = value_read ∙ number_folds (radix_of l) 0 digits ∙ ap (λ (r : ℕ). fold (λ n d. r * n + d) 0 (map digit_number digits)) b.radix_is;
          },
          refl,
        )
