-- Decimal numbers in a text.
-- A digit goes on with a number, and a quote makes it the width of a constant; any other byte closes it.
use Rattle.std.proofs.Common.{◌≡◌, ℕ, zero, suc, ◌+◌, ◌-◌, ◌*◌, ◌/◌, ◌%◌, ◌^◌, ◌<◌, ◌≤◌, List, [], ◌∷◌, ◌++◌, Bool, true, false, Some, refl, sym, ap, ◌∙◌, subst, append_assoc, arith}
use Rattle.std.specs.Prelude.{decimal, nat_eq}
use Rattle.std.proofs.lemmas.Fmt.{decimal_by_steps, decimal_digit}
use Rattle.std.proofs.lemmas.Bool.Decides.{nat_tests}
use Rattle.fir_base.specs.Bytes.{is_digit, is_word_start}
use Rattle.ver_ast.specs.Tokens.{VToken, digit_zero, number}
use Rattle.ver_ast.specs.working.TokenSteps.{is_double, in_number, number_token, begin, close_and_begin, step, go_on, tokens_from, tokens}
use Rattle.ver_emit.proofs.ReadText.{Reads}
use Rattle.ver_emit.proofs.Words.{OpensNoMark, closed_behind}

-- the digits are read as this number, whatever stands behind them
abbrev ReadsAs : ℕ → List ℕ → Type 0
ReadsAs n ds = 1 ≤ n → (rest : List ℕ) (ts : List VToken) → tokens_from (in_number false n) rest ≡ Some ts → tokens (ds ++ rest) ≡ Some ts

-- a decimal digit is one
digit_read : (d : ℕ) → d < 10 → is_digit (48 + d) ≡ true
digit_read d h = grind (arith, nat_tests)

-- and begins no word
digit_starts_no_word : (d : ℕ) → d < 10 → is_word_start (48 + d) ≡ false
digit_starts_no_word d h = grind (arith, nat_tests)

-- a digit above 0 is not the digit 0
not_zero : (d : ℕ) → 1 ≤ d → nat_eq (48 + d) 48 ≡ false
not_zero d h = grind (arith, nat_tests)

-- the value of a digit
digit_value : (d : ℕ) → (48 + d) - 48 ≡ d
digit_value d = omega arith

-- a number of one digit
one_digit : (n : ℕ) → n < 10 → ReadsAs n ((48 + n) ∷ [])
unfolding tokens_from
one_digit n h low rest ts e =
    rw (digit_starts_no_word n h, digit_read n h, not_zero n low, digit_value n, e) refl

-- a number with one digit more
more_digits : (n : ℕ) (ds : List ℕ) → 10 ≤ n → ReadsAs (n / 10) ds → ReadsAs n (ds ++ (48 + n % 10) ∷ [])
unfolding tokens_from
more_digits n ds h front low rest ts e =
    let d : n % 10 < 10 = omega arith in
    let whole : 10 * (n / 10) + ((48 + n % 10) - 48) ≡ n = omega arith in
    let last : tokens_from (in_number false (n / 10)) ((48 + n % 10) ∷ rest) ≡ Some ts = rw (digit_read (n % 10) d, whole, e) refl in
    ap tokens (append_assoc ds ((48 + n % 10) ∷ []) rest) ∙ front (omega arith) _ ts last

-- the digits of a number above 0
pub number_read : (n : ℕ) (rest : List ℕ) (ts : List VToken) → 1 ≤ n → n < 2 ^ 64 → tokens_from (in_number false n) rest ≡ Some ts
    → tokens (decimal n ++ rest) ≡ Some ts
number_read n rest ts low high e = decimal_by_steps ReadsAs one_digit more_digits n high low rest ts e

-- a byte which is no digit and no quote closes a number
close_step : (one_zero : Bool) (n b : ℕ) → is_digit b ≡ false → nat_eq b 39 ≡ false
    → step (in_number one_zero n) b ≡ close_and_begin (number_token one_zero n) b
close_step one_zero n b d q = rw (d, q) refl

-- and the token stands before those behind it
close_number : (one_zero : Bool) (n b : ℕ) (rest : List ℕ) (ts : List VToken) → is_digit b ≡ false → nat_eq b 39 ≡ false
    → tokens (b ∷ rest) ≡ Some ts → tokens_from (in_number one_zero n) (b ∷ rest) ≡ Some (number_token one_zero n ∷ ts)
unfolding tokens_from
close_number one_zero n b rest ts d q e =
    ap (λ s. go_on s (λ next. tokens_from next rest)) (close_step one_zero n b d q)
    ∙ closed_behind (number_token one_zero n) (begin b) (λ next. tokens_from next rest) ts e

-- a number before such a byte; 0 is the one digit
pub number_spelled : (n b : ℕ) (rest : List ℕ) (gs : List VToken) → n ≤ 4294967294 → is_digit b ≡ false → nat_eq b 39 ≡ false
    → Reads (b ∷ rest) gs → Reads (decimal n ++ b ∷ rest) (number n ∷ gs)
unfolding tokens_from
number_spelled zero b rest gs high d q r = record {
  read = digit_zero ∷ r.read;
  is_read = rw (decimal_digit 0 (omega arith), close_number true 0 b rest r.read d q r.is_read) refl;
  alike = (refl, r.alike);
}
number_spelled (suc n) b rest gs high d q r = record {
  read = number (suc n) ∷ r.read;
  is_read = number_read (suc n) (b ∷ rest) _ (omega arith) (omega arith) (close_number false (suc n) b rest r.read d q r.is_read);
  alike = (omega arith, r.alike);
}

-- a digit makes no mark with an opening parenthesis before it
digit_opens_no_mark : (n : ℕ) → n < 10 → is_double 40 (48 + n) ≡ false
digit_opens_no_mark n h = grind (arith, nat_tests)

-- so a number makes none
pub decimal_opens_no_mark : (n : ℕ) (rest : List ℕ) → n < 2 ^ 64 → OpensNoMark (decimal n ++ rest)
decimal_opens_no_mark n rest h =
    decimal_by_steps (λ k ds. (after : List ℕ) → OpensNoMark (ds ++ after)) (λ k low after. digit_opens_no_mark k low)
    (λ k ds high front after. subst OpensNoMark (sym (append_assoc ds ((48 + k % 10) ∷ []) after)) (front _)) n h rest
