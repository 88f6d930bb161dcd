-- The number of decimal digits, digit by digit.
use Rattle.std.proofs.Common.{◌≡◌, ℕ, suc, ◌+◌, ◌-◌, ◌*◌, ◌<◌, ◌≤◌, List, [], ◌∷◌, length, drop, fold, get_or, ap, ◌∙◌, arith}
use Rattle.std.proofs.Math.Seq.{drop-cons}
use Rattle.std.proofs.lemmas.List.{drop_all}

-- the number of digits behind a number
abbrev pub decimal_from : ℕ → List ℕ → ℕ
decimal_from = fold (λ n d. 10 * n + (d - 48))

-- more digits make no smaller number
pub decimal_grows : (n : ℕ) (ds : List ℕ) → n ≤ decimal_from n ds
decimal_grows n [] = omega arith
decimal_grows n (d ∷ ds) = let h = decimal_grows (10 * n + (d - 48)) ds in omega (arith, h)

pub next_digit : (n i : ℕ) (ds : List ℕ) → i < length ds → decimal_from n (drop i ds) ≡ decimal_from (10 * n + (get_or ds i 0 - 48)) (drop (i + 1) ds)
next_digit n i ds h = ap (decimal_from n) (drop-cons ds i 0 h) ∙ ap (λ j. decimal_from (10 * n + (get_or ds i 0 - 48)) (drop j ds)) (let e : suc i ≡ i + 1 = omega arith in e)

pub no_more_digits : (n i : ℕ) (ds : List ℕ) → length ds ≤ i → decimal_from n (drop i ds) ≡ n
no_more_digits n i ds h = ap (decimal_from n) (drop_all i ds h)
