-- Of two tokens that begin at one place the longer is taken (FIRRTL spec, "Details about Syntax").
-- What stands behind a token cannot make it longer: behind a word no byte with which a word goes on, and no dash word begins where the word does;
-- behind an integer no digit; behind `<` neither `=` nor `-`; behind `=` no `>`. All other tokens end where they end.
use Rattle.std.specs.Prelude.{◌≡◌, ◌⊎◌, ℕ, List, [], ◌∷◌, ◌++◌, codes}
use Rattle.fir_base.specs.Lists.{In}
use Rattle.fir_lex.specs.Tokens.{Token, word, integer, sign}
use Rattle.fir_lex.specs.Spelled.{IsDigit, ContinuesWord, dash_words}

-- there is no first byte, or it is none of these
abbrev pub BeginsWithNo : (ℕ → Type 0) → List ℕ → Type 0
BeginsWithNo P [] = Unit {0}
BeginsWithNo P (b ∷ bs) = P b → ⊥

abbrev pub BeginsWithNoDashWord : List ℕ → Type 0
BeginsWithNoDashWord bytes = (w more : List ℕ) → In dash_words w → bytes ≡ w ++ more → ⊥

-- the token, with the bytes behind it
abbrev pub IsLongest : Token → List ℕ → Type 0
IsLongest (word w) behind = BeginsWithNo ContinuesWord behind × BeginsWithNoDashWord (w ++ behind)
IsLongest (integer i) behind = BeginsWithNo IsDigit behind
IsLongest (sign s) behind = (s ≡ codes "<" → BeginsWithNo (λ b. (b ≡ 61) ⊎ (b ≡ 45)) behind) × (s ≡ codes "=" → BeginsWithNo (λ b. b ≡ 62) behind)
IsLongest _ behind = Unit {0}
