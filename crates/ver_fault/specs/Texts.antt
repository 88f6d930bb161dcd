-- How places, bytes and walks are printed.
use Rattle.std.specs.Prelude.{ℕ, ◌/◌, ◌%◌, List, [], ◌∷◌, ◌++◌, false, codes, decimal, flat_map}
use Rattle.std.specs.Fmt.{digit_glyph}
use Rattle.ver_ast.specs.declared.place.VPlace.{VPlace}

abbrev pub vplace_text : VPlace → List ℕ
vplace_text p = decimal p.line ++ codes ":" ++ decimal p.col

-- a byte as two digits in lower case
abbrev pub byte_text : ℕ → List ℕ
byte_text b = digit_glyph false (b / 16) ∷ digit_glyph false (b % 16) ∷ []

-- a name behind another
abbrev pub next_text : List ℕ → List ℕ
next_text name = codes " <- " ++ name

-- names with an arrow between any two
abbrev pub walk_text : List (List ℕ) → List ℕ
walk_text [] = []
walk_text (name ∷ names) = name ++ flat_map next_text names
