-- The decimal text of a number: digits without a sign that spell the number, and with a letter before them a word.
use Rattle.std.proofs.Common.{◌≡◌, ℕ, ◌+◌, ◌-◌, ◌*◌, ◌/◌, ◌%◌, ◌^◌, ◌<◌, ◌≤◌, false, List, [], ◌∷◌, ◌++◌, refl, inl, inr, arith}
use Rattle.std.specs.Prelude.{decimal}
use Rattle.std.specs.List.{AllByRecursion}
use Rattle.std.proofs.lemmas.Bool.{ne_eqb}
use Rattle.std.proofs.lemmas.Fmt.{decimal_by_steps}
use Rattle.std.proofs.lemmas.List.Elements.{All-from_recursion}
use Rattle.std.proofs.lemmas.List.Sums.{fold_push}
use Rattle.fir_base.specs.Digits.{decimal_value}
use Rattle.fir_base.proofs.Each.{all_joined}
use Rattle.fir_lex.specs.Spelled.{IsDigit, ContinuesWord, IsWord, IsIntegerText}
use Rattle.fir_parse.specs.Numbers.{has_sign, integer_value}

-- digits, one at least, that spell a number
pub record IsDecimal (n : ℕ) (ds : List ℕ) : Type 0 where
  pub some : ds ≡ [] → ⊥
  pub digits : AllByRecursion IsDigit ds
  pub value : decimal_value ds ≡ n

one_digit : (n : ℕ) → n < 10 → IsDecimal n ((48 + n) ∷ [])
one_digit n h = record { some = λ e. cc; digits = ((omega arith, omega arith), tt); value = omega arith }

some_pushed : (ds : List ℕ) (d : ℕ) → ds ++ d ∷ [] ≡ [] → ⊥
some_pushed [] d e = cc
some_pushed (x ∷ xs) d e = cc

more_digits : (n : ℕ) (ds : List ℕ) → 10 ≤ n → IsDecimal (n / 10) ds → IsDecimal n (ds ++ (48 + n % 10) ∷ [])
more_digits n ds h front =
    let pushed : decimal_value (ds ++ (48 + n % 10) ∷ []) ≡ 10 * decimal_value ds + ((48 + n % 10) - 48) =
    fold_push (λ m d. 10 * m + (d - 48)) 0 ds (48 + n % 10) in
    let value : decimal_value ds ≡ n / 10 = front.value in
    record {
      some = some_pushed ds (48 + n % 10);
      digits = all_joined IsDigit ds ((48 + n % 10) ∷ []) front.digits ((omega arith, omega arith), tt);
      value = omega arith;
    }

pub decimal_is : (n : ℕ) → n < 2 ^ 64 → IsDecimal n (decimal n)
decimal_is n h = decimal_by_steps IsDecimal one_digit more_digits n h

-- ---- digits

digits_go_on : (ds : List ℕ) → AllByRecursion IsDigit ds → AllByRecursion ContinuesWord ds
digits_go_on [] all = tt
digits_go_on (d ∷ ds) all = (inr (inl all.0), digits_go_on ds all.1)

pub no_sign : (ds : List ℕ) → AllByRecursion IsDigit ds → has_sign ds ≡ false
no_sign [] all = refl
no_sign (d ∷ ds) all = let digit = all.0 in rw (ne_eqb d 43 (λ e. omega arith), ne_eqb d 45 (λ e. omega arith)) refl

pub value_of_digits : (ds : List ℕ) → AllByRecursion IsDigit ds → integer_value ds ≡ record { negative = false; magnitude = decimal_value ds }
value_of_digits [] all = refl
value_of_digits (d ∷ ds) all = let digit = all.0 in rw (ne_eqb d 45 (λ e. omega arith), ne_eqb d 43 (λ e. omega arith)) refl

-- ---- decimal texts

pub decimal_text : (n : ℕ) → n < 2 ^ 64 → IsIntegerText (decimal n)
decimal_text n h =
    let is = decimal_is n h in
    let value : decimal_value (decimal n) ≡ n = is.value in
    ([], decimal n, refl, inl refl, is.some, All-from_recursion IsDigit (decimal n) is.digits, omega arith)

-- behind the letter r
pub name_is_word : (n : ℕ) → n < 2 ^ 64 → IsWord (114 ∷ decimal n)
name_is_word n h = (inl (omega arith, omega arith), All-from_recursion ContinuesWord (decimal n) (digits_go_on (decimal n) (decimal_is n h).digits))
