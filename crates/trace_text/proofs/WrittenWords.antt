-- The word that is written for a value, read back.
use Rattle.std.proofs.Common.{◌≡◌, ℕ, zero, suc, ◌+◌, ◌-◌, ◌*◌, ◌/◌, ◌%◌, ◌^◌, ◌<◌, ◌≤◌, List, [], ◌∷◌, ◌++◌, length, true, false, refl, sym, ap, ◌∙◌, subst, inl, inr, length-append, arith}
use Rattle.std.specs.Prelude.{max, replicate}
use Rattle.std.specs.List.{list_all}
use Rattle.std.specs.Fmt.{digit_glyph}
use Rattle.std.proofs.lemmas.Bool.{and_parts, cases_lt}
use Rattle.std.proofs.lemmas.Bool.Decides.{nat_tests}
use Rattle.std.proofs.lemmas.List.{length-replicate}
use Rattle.std.proofs.lemmas.List.Folds.{list_all-append}
use Rattle.std.proofs.lemmas.Nat.{pow-add, pow_pos, pow_below}
use Rattle.std.proofs.Math.Nat.{pow-suc}
use Rattle.std.proofs.Math.Pow.{pow_mono}
use Rattle.fir_base.specs.Digits.{hexadecimal}
use Rattle.fir_base.proofs.Digits.{last_digit, hexadecimal_by_steps}
use Rattle.fir_bits.specs.Values.{BitVector, IsBitVector}
use Rattle.trace_text.specs.Spelling.{is_hexadecimal, digit_number, number_from, is_filled, is_value, hexadecimal_of}
use Rattle.trace_text.specs.OutputLines.{digit_count, padded, value_text}
use Rattle.trace_text.specs.working.WrittenWords.{is_lower_digit, ShowsAll, ReadsBack}
use Rattle.trace_text.proofs.Numbers.{all_sixteen, number_below}

-- the digit of a number, read
glyph_number : (d : ℕ) → d < 16 → digit_number (digit_glyph false d) ≡ d
glyph_number d h = grind (arith, nat_tests)

glyph_lower : (d : ℕ) → d < 16 → is_lower_digit (digit_glyph false d) ≡ true
glyph_lower d h = grind (arith, nat_tests)

lower_hexadecimal : (b : ℕ) → is_lower_digit b ≡ true → is_hexadecimal b ≡ true
lower_hexadecimal b h = grind (arith, nat_tests)

all_hexadecimal : (bs : List ℕ) → list_all is_lower_digit bs ≡ true → list_all is_hexadecimal bs ≡ true
all_hexadecimal [] h = refl
all_hexadecimal (b ∷ bs) h =
    let p = and_parts (is_lower_digit b) (list_all is_lower_digit bs) h in
    rw (lower_hexadecimal b p.0, all_hexadecimal bs p.1) refl

-- a digit more at the end
number_more : (base n : ℕ) (ds : List ℕ) (d : ℕ) → number_from base n (ds ++ d ∷ []) ≡ base * number_from base n ds + digit_number d
number_more base n [] d = refl
number_more base n (e ∷ ds) d = number_more base (base * n + digit_number e) ds d

-- zeros at the front
number_behind : (count : ℕ) (ds : List ℕ) → hexadecimal_of (replicate count 48 ++ ds) ≡ hexadecimal_of ds
number_behind zero ds = refl
number_behind (suc count) ds = number_behind count ds

zeros_lower : (count : ℕ) → list_all is_lower_digit (replicate count 48) ≡ true
zeros_lower zero = refl
zeros_lower (suc count) = zeros_lower count

-- digits that read back to a number, no more than so many where it is below sixteen to their power
record IsWritten (n : ℕ) (ds : List ℕ) : Type 0 where
  digits : list_all is_lower_digit ds ≡ true
  number : hexadecimal_of ds ≡ n
  filled : 1 ≤ length ds
  few : (k : ℕ) → 1 ≤ k → n < 16 ^ k → length ds ≤ k

one_written : (n : ℕ) → n < 16 → IsWritten n (digit_glyph false n ∷ [])
one_written n h = record {
  digits = rw (glyph_lower n h) refl;
  number = ap (λ m. 0 + m) (glyph_number n h) ∙ omega arith;
  filled = omega arith;
  few = λ k p q. p;
}

fewer : (n k : ℕ) (ds : List ℕ) → 16 ≤ n → 1 ≤ k → n < 16 ^ k → ((j : ℕ) → 1 ≤ j → n / 16 < 16 ^ j → length ds ≤ j)
    → length ds + 1 ≤ k
fewer n zero ds h p q few = absurd (omega arith)
fewer n (suc zero) ds h p q few = absurd (omega arith)
fewer n (suc (suc j)) ds h p q few =
    let small : n / 16 < 16 ^ suc j = let e : 16 ^ suc (suc j) ≡ 16 ^ suc j * 16 = pow-suc 16 (suc j) in omega arith in
    let k : length ds ≤ suc j = few (suc j) (omega arith) small in
    omega arith

more_written : (n : ℕ) (ds : List ℕ) → 16 ≤ n → IsWritten (n / 16) ds → IsWritten n (ds ++ last_digit n ∷ [])
more_written n ds h w =
    let small : n % 16 < 16 = omega arith in
    record {
      digits = list_all-append is_lower_digit ds (last_digit n ∷ []) ∙ rw (w.digits, glyph_lower (n % 16) small) refl;
      number =
          number_more 16 0 ds (last_digit n) ∙ ap (λ m. 16 * m + digit_number (last_digit n)) w.number
          ∙ ap (λ m. 16 * (n / 16) + m) (glyph_number (n % 16) small) ∙ omega arith;
      filled = omega (arith, length-append ds (last_digit n ∷ []));
      few = λ k p q. let e = fewer n k ds h p q w.few in omega (arith, length-append ds (last_digit n ∷ []));
    }

written : (n : ℕ) → n < 2 ^ 128 → IsWritten n (hexadecimal n)
written n small = hexadecimal_by_steps IsWritten one_written more_written n small

-- how many digits the words of a width have
abbrev shown_count : ℕ → ℕ
shown_count width = max (digit_count width) 1

sixteens : (k : ℕ) → 16 ^ k ≡ 2 ^ (4 * k)
sixteens zero = refl
sixteens (suc k) =
    let more : 4 * suc k ≡ 4 * k + 4 = omega arith in
    pow-suc 16 k ∙ ap (λ m. m * 16) (sixteens k) ∙ sym (pow-add 2 (4 * k) 4) ∙ ap (λ m. 2 ^ m) (sym more)

enough_for : (width n : ℕ) → n < 2 ^ width → n < 16 ^ shown_count width
enough_for width n h =
    let wide : 2 ^ width ≤ 2 ^ (4 * shown_count width) = pow_mono (omega arith) in
    let e = sixteens (shown_count width) in
    omega arith

padded_long : (count : ℕ) (ds : List ℕ) → 1 ≤ length ds → length ds ≤ max count 1 → length (padded count ds) ≡ max count 1
padded_long count ds h k = omega (arith, length-append (replicate (count - length ds) 48) ds, length-replicate {A = ℕ} (count - length ds) 48)

module _ (v : BitVector) (is : IsBitVector v) where
  small : v.number < 2 ^ 128
  small = let wide : 2 ^ v.width ≤ 2 ^ 128 = pow_mono is.narrow in let b = is.below in omega arith

  digits_written : IsWritten v.number (hexadecimal v.number)
  digits_written = written v.number small

  word_long : length (value_text v) ≡ shown_count v.width
  word_long =
      padded_long (digit_count v.width) (hexadecimal v.number) digits_written.filled
      (digits_written.few (shown_count v.width) (omega arith) (enough_for v.width v.number is.below))

  word_number : hexadecimal_of (value_text v) ≡ v.number
  word_number = number_behind (digit_count v.width - length (hexadecimal v.number)) (hexadecimal v.number) ∙ digits_written.number

  word_digits : list_all is_lower_digit (value_text v) ≡ true
  word_digits =
      list_all-append is_lower_digit (replicate (digit_count v.width - length (hexadecimal v.number)) 48) (hexadecimal v.number)
      ∙ rw (zeros_lower (digit_count v.width - length (hexadecimal v.number)), digits_written.digits) refl

is_filled_word : (word : List ℕ) → 1 ≤ length word → is_filled word ≡ true
is_filled_word [] h = absurd (omega arith)
is_filled_word (b ∷ bs) h = refl

filled_word : (word : List ℕ) → is_value word ≡ true → 1 ≤ length word
filled_word [] h = cc
filled_word (b ∷ bs) h = omega arith

-- a value of the width has a word of so many digits
shows_value : (width : ℕ) → width ≤ 128 → ShowsAll width (shown_count width)
shows_value width narrow n h =
    let v : BitVector = record { width = width; number = n } in
    let is : IsBitVector v = record { narrow = narrow; below = h } in
    let long : length (value_text v) ≡ shown_count width = word_long v is in
    record {
      word = value_text v;
      long = long;
      spelled = rw (is_filled_word (value_text v) (omega arith), all_hexadecimal (value_text v) (word_digits v is)) refl;
      is = word_number v is;
    }

-- the greatest value of a width wants so many digits
wants : (width count : ℕ) → 1 ≤ count → 2 ^ width - 1 < 16 ^ count → shown_count width ≤ count
wants width count some below = elim (cases_lt (4 * count) width) [
  | inl l ↦
      let wide : 2 ^ (4 * count) < 2 ^ width = pow_below (4 * count) width l in
      let e = sixteens count in
      absurd (omega arith)
  | inr l ↦ omega arith
]

needs : (width count : ℕ) → ShowsAll width count → shown_count width ≤ count
needs width count shows =
    let top : 2 ^ width - 1 < 2 ^ width = omega (arith, pow_pos width) in
    let w = shows (2 ^ width - 1) top in
    let p = and_parts (is_filled w.word) (list_all is_hexadecimal w.word) w.spelled in
    let room : hexadecimal_of w.word < (0 + 1) * 16 ^ length w.word = number_below 16 0 w.word (all_sixteen w.word ∙ p.1) in
    let long : length w.word ≡ count = w.long in
    let some : 1 ≤ count = omega (arith, filled_word w.word w.spelled) in
    let below : 2 ^ width - 1 < 16 ^ count = subst (λ k. 2 ^ width - 1 < 16 ^ k) long (let e = w.is in omega arith) in
    wants width count some below

pub word_read_back : (v : BitVector) → IsBitVector v → ReadsBack v (value_text v)
word_read_back v is =
    let long = word_long v is in
    record {
      digits = word_digits v is;
      number = word_number v is;
      enough = subst (ShowsAll v.width) (sym long) (shows_value v.width is.narrow);
      least = λ count shows. let n : shown_count v.width ≤ count = needs v.width count shows in omega arith;
    }
