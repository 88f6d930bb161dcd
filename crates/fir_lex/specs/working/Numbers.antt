-- The number of an integer.
use Rattle.std.specs.Prelude.{◌≡◌, List, [], ◌∷◌, ℕ, ◌||◌, nat_eq, if◌then◌else◌}
use Rattle.fir_base.specs.Digits.{decimal_value}
use Rattle.fir_lex.specs.declared.token.Kind.{Kind}
use Rattle.fir_lex.specs.declared.token.Kind.TheVariants as kind

-- the digits of an integer, behind its sign or none
abbrev pub digits_of : List ℕ → List ℕ
digits_of [] = []
digits_of (b ∷ bs) = if nat_eq b 43 || nat_eq b 45 then bs else b ∷ bs

-- the number of an integer; that of a token of another kind is free
abbrev pub number_or : Kind → ℕ → ℕ
number_or (kind.Integer n) free = n
number_or _ free = free

-- an integer has the number of its digits
abbrev pub HasNumber : Kind → List ℕ → Type 0
HasNumber k s = number_or k (decimal_value (digits_of s)) ≡ decimal_value (digits_of s)
