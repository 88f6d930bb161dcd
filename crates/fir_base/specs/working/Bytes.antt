-- Whether a word begins with a digit.
use Rattle.std.specs.Prelude.{ℕ, List, [], ◌∷◌, Bool, false}
use Rattle.fir_base.specs.Bytes.{is_digit}

abbrev pub starts_with_digit : List ℕ → Bool
starts_with_digit [] = false
starts_with_digit (b ∷ bs) = is_digit b
