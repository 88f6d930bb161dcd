-- How a line starts, as far as its first bytes show.
use Rattle.std.specs.Prelude.{ℕ, List, [], ◌∷◌, Bool, true, false, ◌||◌, nat_eq}

-- a word that stands before these bytes ends there
abbrev pub ends_word : List ℕ → Bool
ends_word [] = true
ends_word (b ∷ bs) = nat_eq b 32

-- a line that is skipped or begins with `init` may begin so
abbrev pub may_go_on : List ℕ → Bool
may_go_on [] = false
may_go_on (b ∷ bs) = nat_eq b 35 || (nat_eq b 10 || nat_eq b 105)
