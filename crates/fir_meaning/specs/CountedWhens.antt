-- Which whens round a statement count for a leaf: those from its own declaration inward, a choice of this project (FIRRTL spec, "Conditional Last Connect
-- Semantics").
use Rattle.std.specs.Prelude.{ℕ, List, [], ◌∷◌, drop, Bool, true, ◌&&◌}

abbrev pub all_true : List Bool → Bool
all_true [] = true
all_true (b ∷ bs) = b && all_true bs

-- whether a leaf of that depth counts all that is taken
abbrev pub counts : ℕ → List Bool → Bool
counts depth taken = all_true (drop depth taken)
