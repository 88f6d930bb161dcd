-- Tables of words.
use Rattle.std.specs.Prelude.{ℕ, List, [], ◌∷◌, Bool, false, ◌||◌}
use Rattle.std.specs.Str.{bytes_eq}

-- the word is one of the table
abbrev pub is_among : List (List ℕ) → List ℕ → Bool
is_among [] word = false
is_among (entry ∷ rest) word = bytes_eq entry word || is_among rest word
