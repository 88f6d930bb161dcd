-- The numbers of digits.
-- A number grows with each digit, so one that is too great stays so.
use Rattle.std.proofs.Common.{◌≡◌, ℕ, ◌+◌, ◌*◌, ◌^◌, ◌<◌, ◌≤◌, List, [], ◌∷◌, length, get_or, drop, Bool, true, ◌&&◌, nat_lt, refl, sym, ap, ◌∙◌, arith}
use Rattle.std.specs.List.{list_all}
use Rattle.std.proofs.lemmas.List.{at_drop_more}
use Rattle.std.proofs.lemmas.Bool.{and_parts, ltb-true}
use Rattle.std.proofs.lemmas.Bool.Decides.{nat_tests}
use Rattle.std.proofs.Math.Nat.{pow-suc, pow-zero, mul-le-mul_right}
use Rattle.std.proofs.Math.Pow.{pow_mono}
use Rattle.fir_base.specs.Bytes.{is_digit}
use Rattle.trace_text.specs.Spelling.{is_hexadecimal, digit_number, number_from, is_filled, is_value, is_decimal}
use Rattle.trace_text.specs.working.Numbers.{is_digit_in, is_number}

more : (base n digit : ℕ) → 1 ≤ base → n ≤ base * n + digit
more base n digit h = grind arith

-- more digits make no smaller number
pub number_grows : (base n : ℕ) (bs : List ℕ) → 1 ≤ base → n ≤ number_from base n bs
number_grows base n [] h = omega arith
number_grows base n (b ∷ bs) h = omega (arith, more base n (digit_number b) h, number_grows base (base * n + digit_number b) bs h)

-- a number that is too great at a digit is so at the end
pub too_great : (base n top whole : ℕ) (digits : List ℕ) (i : ℕ) → 1 ≤ base → i < length digits → top ≤ base * n + digit_number (get_or digits i 0)
    → number_from base n (drop i digits) ≡ whole → top ≤ whole
too_great base n top whole digits i h within great is =
    let next = base * n + digit_number (get_or digits i 0) in
    let e : whole ≡ number_from base next (drop (i + 1) digits) = sym is ∙ at_drop_more (number_from base n) digits i 0 within in
    omega (arith, number_grows base next (drop (i + 1) digits) h)

-- the digits of the two bases
sixteen : (b : ℕ) → is_digit_in 16 b ≡ is_hexadecimal b
sixteen b = grind (arith, nat_tests)

ten : (b : ℕ) → is_digit_in 10 b ≡ is_digit b
ten b = grind (arith, nat_tests)

all_alike : (p q : ℕ → Bool) → ((b : ℕ) → p b ≡ q b) → (bs : List ℕ) → list_all p bs ≡ list_all q bs
all_alike p q h [] = refl
all_alike p q h (b ∷ bs) = rw (h b, all_alike p q h bs) refl

pub all_sixteen : (bs : List ℕ) → list_all (is_digit_in 16) bs ≡ list_all is_hexadecimal bs
all_sixteen = all_alike (is_digit_in 16) is_hexadecimal sixteen

pub all_ten : (bs : List ℕ) → list_all (is_digit_in 10) bs ≡ list_all is_digit bs
all_ten = all_alike (is_digit_in 10) is_digit ten

pub in_sixteen : (word : List ℕ) → is_number 16 word ≡ is_value word
in_sixteen word = ap (λ b. is_filled word && b) (all_sixteen word)

pub in_ten : (word : List ℕ) → is_number 10 word ≡ is_decimal word
in_ten word = ap (λ b. is_filled word && b) (all_ten word)

-- digits behind a number make less than zeros behind the next number
below_step : (base n v p x : ℕ) → v < base → x < (base * n + v + 1) * p → x < (n + 1) * (p * base)
below_step base n v p x h l = let m : (base * n + v + 1) * p ≤ (base * n + base) * p = mul-le-mul_right p (omega arith) in omega arith

pub number_below : (base n : ℕ) (ds : List ℕ) → list_all (is_digit_in base) ds ≡ true → number_from base n ds < (n + 1) * base ^ length ds
number_below base n [] h = rw pow-zero (omega arith)
number_below base n (d ∷ ds) h =
    let p = and_parts (is_digit_in base d) (list_all (is_digit_in base) ds) h in
    let q = and_parts (is_hexadecimal d) (nat_lt (digit_number d) base) p.0 in
    rw pow-suc
    (below_step base n (digit_number d) (base ^ length ds) _ (ltb-true (digit_number d) base q.1) (number_below base (base * n + digit_number d) ds p.1))

-- a number with more than 128 bits fits no width of up to so many
pub beyond : (n width : ℕ) → 2 ^ 128 ≤ n → width ≤ 128 → 2 ^ width ≤ n
beyond n width h w = let p : 2 ^ width ≤ 2 ^ 128 = pow_mono w in omega arith
