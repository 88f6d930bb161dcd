-- Kinds of bytes, and places byte by byte.
use Rattle.std.specs.Prelude.{ℕ, ◌+◌, List, [], ◌∷◌, Bool, false, ◌||◌, nat_eq, if◌then◌else◌, is_some}
use Rattle.fir_base.specs.Digits.{digit_value}
use Rattle.ver_ast.specs.declared.place.VPlace.{VPlace}
use Rattle.ver_ast.specs.working.TokenSteps.{digit_below}

abbrev pub next_place : VPlace → ℕ → VPlace
next_place p b = if nat_eq b 10 then record { line = p.line + 1; col = 1 } else record { line = p.line; col = p.col + 1 }

-- the place behind some bytes
abbrev pub place_behind : VPlace → List ℕ → VPlace
place_behind p [] = p
place_behind p (b ∷ bs) = place_behind (next_place p b) bs

abbrev pub starts_with_byte : ℕ → List ℕ → Bool
starts_with_byte b [] = false
starts_with_byte b (c ∷ cs) = nat_eq c b

-- the letter of a base
abbrev pub is_base : ℕ → Bool
is_base l = nat_eq l 98 || (nat_eq l 100 || nat_eq l 104)

abbrev pub radix_of : ℕ → ℕ
radix_of l = if nat_eq l 98 then 2 else if nat_eq l 100 then 10 else 16

-- a digit of this radix
abbrev pub is_digit_below : ℕ → ℕ → Bool
is_digit_below radix b = is_some (digit_below radix (digit_value b))
