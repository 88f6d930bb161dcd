-- Bytes and places.
-- Lines and columns count from 1, columns in bytes. A line ends with a newline, or with a carriage return and a newline.
use Rattle.std.specs.Prelude.{ℕ, ◌+◌, List, [], ◌∷◌, Bool, false, ◌||◌, ◌&&◌, nat_eq, if◌then◌else◌}
use Rattle.fir_ast.specs.declared.place.Place.{Place}

abbrev pub next_place : Place → ℕ → Place
next_place p b = if nat_eq b 10 then record { line = p.line + 1; col = 1 } else record { line = p.line; col = p.col + 1 }

-- the place behind some bytes
abbrev pub place_behind : Place → List ℕ → Place
place_behind p [] = p
place_behind p (b ∷ bs) = place_behind (next_place p b) bs

abbrev pub starts_with_byte : ℕ → List ℕ → Bool
starts_with_byte b [] = false
starts_with_byte b (c ∷ cs) = nat_eq c b

-- a line's end stands at the front
abbrev pub ends_line : List ℕ → Bool
ends_line [] = false
ends_line (b ∷ bs) = nat_eq b 10 || (nat_eq b 13 && starts_with_byte 10 bs)

-- how many bytes the line's end has that stands at the front
abbrev pub line_end_length : List ℕ → ℕ
line_end_length [] = 0
line_end_length (b ∷ bs) = if nat_eq b 10 then 1 else 2

-- space or tab
abbrev pub is_blank : ℕ → Bool
is_blank b = nat_eq b 32 || nat_eq b 9
