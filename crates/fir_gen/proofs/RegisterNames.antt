-- The names of registers tell them apart, and are none of the names of the ports.
use Rattle.std.proofs.Common.{◌≡◌, ℕ, ◌^◌, ◌<◌, ◌≤◌, ◌≢◌, List, [], ◌∷◌, false, refl, arith, lit≤}
use Rattle.std.specs.Prelude.{codes, decimal}
use Rattle.std.specs.Char.{digit_value}
use Rattle.std.specs.Str.{bytes_eq}
use Rattle.std.specs.Str.Parse.{AllDigits}
use Rattle.std.proofs.lemmas.Fmt.{decimal_injective, decimal_is_IsNumeral}
use Rattle.fir_base.proofs.SameNames.{name_other}
use Rattle.fir_gen.specs.GenText.{register_name}

-- registers of different numbers have different names
pub register_other : (j k : ℕ) → j < 2 ^ 64 → k < 2 ^ 64 → j ≢ k → bytes_eq (register_name j) (register_name k) ≡ false
register_other j k s t apart =
    name_other (register_name j) (register_name k) (λ e. let d : decimal j ≡ decimal k = cc in apart (decimal_injective j k s t d))

-- a byte that is no digit does not begin a decimal
no_decimal : (c : ℕ) (cs ds : List ℕ) → 10 ≤ digit_value c → AllDigits 10 ds → bytes_eq (c ∷ cs) ds ≡ false
no_decimal c cs [] h digits = refl
no_decimal c cs (d ∷ ds) h digits =
    name_other (c ∷ cs) (d ∷ ds) (λ e. let same : d ≡ c = cc in let f : digit_value d < 10 = digits.0 in let g : digit_value c < 10 = rw (← same) f in omega arith)

pub reset_is_no_register : (k : ℕ) → k < 2 ^ 64 → bytes_eq (codes "reset") (register_name k) ≡ false
reset_is_no_register k h = no_decimal 101 (codes "set") (decimal k) (lit≤ tt) (decimal_is_IsNumeral k h).0.1
