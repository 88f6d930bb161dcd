-- Constants in a text.
-- The width, a quote, the base and the hexadecimal digits are one token, which any byte closes that is in no word and no question mark.
use Rattle.std.proofs.Common.{◌≡◌, ℕ, ◌+◌, ◌-◌, ◌*◌, ◌/◌, ◌%◌, ◌^◌, ◌<◌, ◌≤◌, inl, inr, List, [], ◌∷◌, ◌++◌, true, false, ◌&&◌, Some, None, refl, ap, ◌∙◌, append_assoc, arith}
use Rattle.std.specs.Prelude.{codes, decimal, nat_eq, nat_le, nat_lt}
use Rattle.std.specs.Fmt.{digit_glyph}
use Rattle.std.proofs.lemmas.Bool.{cases_lt, or_parts}
use Rattle.std.proofs.lemmas.Bool.Decides.{nat_tests}
use Rattle.fir_base.specs.Bytes.{is_digit, is_word_byte}
use Rattle.ver_ast.specs.Tokens.{VToken, constant, hexadecimal}
use Rattle.ver_ast.specs.working.TokenSteps.{in_number, at_digits, in_constant, digit_in, begin, close_and_begin, step, go_on, tokens_from, tokens}
use Rattle.fir_base.specs.Digits as digits
use Rattle.ver_emit.proofs.ReadText.{Reads}
use Rattle.ver_emit.proofs.Words.{Closes, closed_behind}
use Rattle.ver_emit.proofs.Numbers.{number_read}
use Rattle.fir_base.proofs.Digits.{hexadecimal_by_steps}

-- behind the base, the digits are read as this number, whatever stands behind them
abbrev ReadsAs : ℕ → List ℕ → Type 0
ReadsAs n ds = (w : ℕ) (rest : List ℕ) (ts : List VToken) → tokens_from (in_constant w hexadecimal n) rest ≡ Some ts
    → tokens_from (at_digits w hexadecimal) (ds ++ rest) ≡ Some ts

-- a digit from 0 to 9
low_digit_read : (d : ℕ) → d < 10 → digit_in hexadecimal (48 + d) ≡ Some d
low_digit_read d h =
    let is : is_digit (48 + d) ≡ true = grind (arith, nat_tests) in
    let value : (48 + d) - 48 ≡ d = omega arith in
    let below : nat_lt d 16 ≡ true = grind (arith, nat_tests) in
    rw (is, value, below) refl

-- a digit from a to f
high_digit_read : (d : ℕ) → 10 ≤ d → d < 16 → digit_in hexadecimal (87 + d) ≡ Some d
high_digit_read d l h =
    let no : is_digit (87 + d) ≡ false = grind (arith, nat_tests) in
    let is : (nat_le 97 (87 + d) && nat_le (87 + d) 102) ≡ true = grind (arith, nat_tests) in
    let value : (87 + d) - 87 ≡ d = omega arith in
    let below : nat_lt d 16 ≡ true = grind (arith, nat_tests) in
    rw (no, is, value, below) refl

-- each digit is read as itself
glyph_read : (d : ℕ) → d < 16 → digit_in hexadecimal (digit_glyph false d) ≡ Some d
glyph_read d h = elim (cases_lt d 10) [
  | inl l ↦ (let low : nat_lt d 10 ≡ true = grind (arith, nat_tests) in rw low (low_digit_read d l))
  | inr l ↦ (let high : nat_lt d 10 ≡ false = grind (arith, nat_tests) in rw high (high_digit_read d l h))
]

-- a byte of no word is no digit
no_digit : (b : ℕ) → is_word_byte b ≡ false → digit_in hexadecimal b ≡ None
no_digit b h =
    let decimal_one : is_digit b ≡ false = grind (arith, nat_tests) in
    let lower : (nat_le 97 b && nat_le b 102) ≡ false = grind (arith, nat_tests) in
    let upper : (nat_le 65 b && nat_le b 70) ≡ false = grind (arith, nat_tests) in
    rw (decimal_one, lower, upper) refl

-- a number of one digit
one_digit : (n : ℕ) → n < 16 → ReadsAs n (digit_glyph false n ∷ [])
unfolding tokens_from
one_digit n h w rest ts e = rw (glyph_read n h, e) refl

-- a number with one digit more
more_digits : (n : ℕ) (ds : List ℕ) → 16 ≤ n → ReadsAs (n / 16) ds → ReadsAs n (ds ++ digit_glyph false (n % 16) ∷ [])
unfolding tokens_from
more_digits n ds h front w rest ts e =
    let d : n % 16 < 16 = omega arith in
    let whole : 16 * (n / 16) + n % 16 ≡ n = omega arith in
    let last : tokens_from (in_constant w hexadecimal (n / 16)) (digit_glyph false (n % 16) ∷ rest) ≡ Some ts =
    rw (glyph_read (n % 16) d, whole, e) refl in
    ap (tokens_from (at_digits w hexadecimal)) (append_assoc ds (digit_glyph false (n % 16) ∷ []) rest) ∙ front w _ ts last

-- a byte which is no digit and no question mark closes a constant
close_step : (w n b : ℕ) → digit_in hexadecimal b ≡ None → nat_eq b 63 ≡ false
    → step (in_constant w hexadecimal n) b ≡ close_and_begin (constant w n) b
close_step w n b d q = rw (d, q) refl

-- and the token stands before those behind it
close_constant : (w n : ℕ) (rest : List ℕ) (ts : List VToken) → Closes rest → tokens rest ≡ Some ts
    → tokens_from (in_constant w hexadecimal n) rest ≡ Some (constant w n ∷ ts)
unfolding tokens_from
close_constant w n [] ts c e = absurd c
close_constant w n (b ∷ bs) ts c e =
    let p = or_parts (is_word_byte b) (nat_eq b 63) c in
    ap (λ s. go_on s (λ next. tokens_from next bs)) (close_step w n b (no_digit b p.0) p.1)
    ∙ closed_behind (constant w n) (begin b) (λ next. tokens_from next bs) ts e

-- what stands behind the width
quote_read : (w : ℕ) (rest : List ℕ) (ts : List VToken) → tokens_from (at_digits w hexadecimal) rest ≡ Some ts
    → tokens_from (in_number false w) (codes "'h" ++ rest) ≡ Some ts
unfolding tokens_from
quote_read w rest ts e = rw e refl

-- a constant before what closes it
pub constant_spelled : (w n : ℕ) (rest : List ℕ) (gs : List VToken) → 1 ≤ w → w ≤ 128 → n < 2 ^ 128 → Closes rest
    → Reads rest gs → Reads (decimal w ++ (codes "'h" ++ (digits.hexadecimal n ++ rest))) (constant w n ∷ gs)
constant_spelled w n rest gs low high small c r =
    let read = hexadecimal_by_steps ReadsAs one_digit more_digits n small w rest _ (close_constant w n rest r.read c r.is_read) in
    record {
      read = constant w n ∷ r.read;
      is_read = number_read w _ _ low (omega arith) (quote_read w _ _ read);
      alike = ((omega arith, omega (arith, small)), r.alike);
    }
