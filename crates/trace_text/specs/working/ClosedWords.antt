-- Words, each with a space behind it.
use Rattle.std.specs.Prelude.{ℕ, List, [], ◌∷◌, ◌++◌}

abbrev pub closed : List (List ℕ) → List ℕ
closed [] = []
closed (w ∷ ws) = (w ++ 32 ∷ []) ++ closed ws
