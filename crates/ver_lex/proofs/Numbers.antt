-- The number of digits with a radix, digit by digit.
use Rattle.std.proofs.Common.{◌≡◌, ℕ, zero, suc, ◌+◌, ◌*◌, ◌<◌, ◌≤◌, List, [], ◌∷◌, length, drop, fold, get_or, ap, ◌∙◌, arith}
use Rattle.std.proofs.Math.Seq.{drop-cons}
use Rattle.std.proofs.lemmas.List.{drop_all}
use Rattle.fir_base.specs.Digits.{digit_value}
use Rattle.ver_lex.specs.working.View.{digit_or_zero}

-- the number with one more digit
abbrev pub next_number : ℕ → ℕ → ℕ → ℕ
next_number radix n b = radix * n + digit_or_zero (digit_value b)

-- the number of digits behind a number
abbrev pub number_from : ℕ → ℕ → List ℕ → ℕ
number_from radix = fold (next_number radix)

-- more digits make no smaller number
pub number_grows : (radix n : ℕ) (ds : List ℕ) → 1 ≤ radix → n ≤ number_from radix n ds
number_grows radix n [] some = omega arith
number_grows radix n (d ∷ ds) some =
    let h = number_grows radix (next_number radix n d) ds some in
    let more : n ≤ radix * n = at_least radix n some in
    omega (arith, h, more)
  where
    at_least : (r n : ℕ) → 1 ≤ r → n ≤ r * n
    at_least zero n some = absurd (omega arith)
    at_least (suc r) n some = omega arith

pub next_digit : (radix n i : ℕ) (ds : List ℕ) → i < length ds
    → number_from radix n (drop i ds) ≡ number_from radix (next_number radix n (get_or ds i 0)) (drop (i + 1) ds)
next_digit radix n i ds h =
    ap (number_from radix n) (drop-cons ds i 0 h)
    ∙ ap (λ j. number_from radix (next_number radix n (get_or ds i 0)) (drop j ds)) (let e : suc i ≡ i + 1 = omega arith in e)

pub no_more_digits : (radix n i : ℕ) (ds : List ℕ) → length ds ≤ i → number_from radix n (drop i ds) ≡ n
no_more_digits radix n i ds h = ap (number_from radix n) (drop_all i ds h)
