-- Which bytes spell which token (FIRRTL spec, "Details about Syntax").
-- A word is a letter or an underscore, and then letters, digits, underscores and dollar signs. An integer is one sign or none, and then digits. A
-- string stands between quotes, on one line, in ASCII. Dash words and signs are those of a list.
use Rattle.std.specs.Prelude.{◌≡◌, ◌≢◌, ◌⊎◌, ℕ, ◌<◌, ◌≤◌, ◌^◌, List, [], ◌∷◌, ◌++◌, All, codes}
use Rattle.fir_base.specs.Lists.{In}
use Rattle.fir_base.specs.Digits.{decimal_value}
use Rattle.fir_lex.specs.Tokens.{Token, word, dash_word, integer, text, sign, annotations, line_end, level_opens, level_closes}
use Rattle.fir_lex.specs.Enclosed.{AreCharacters, IsAnnotationBlock}

-- 0 to 9
abbrev pub IsDigit : ℕ → Type 0
IsDigit b = (48 ≤ b) × (b ≤ 57)

-- a to z, A to Z, or an underscore
abbrev pub BeginsWord : ℕ → Type 0
BeginsWord b = (97 ≤ b) × (b ≤ 122) ⊎ (65 ≤ b) × (b ≤ 90) ⊎ (b ≡ 95)

-- or a digit, or a dollar sign
abbrev pub ContinuesWord : ℕ → Type 0
ContinuesWord b = BeginsWord b ⊎ IsDigit b ⊎ (b ≡ 36)

abbrev pub IsWord : List ℕ → Type 0
IsWord [] = ⊥
IsWord (b ∷ bs) = BeginsWord b × All ContinuesWord bs

abbrev pub dash_words : List (List ℕ)
dash_words = codes "data-type" ∷ codes "read-latency" ∷ codes "write-latency" ∷ codes "read-under-write" ∷ []

-- its digits spell less than 2^128
abbrev pub IsIntegerText : List ℕ → Type 0
IsIntegerText s =
    (plus_or_minus : List ℕ) × (digits : List ℕ) × (s ≡ plus_or_minus ++ digits)
    × ((plus_or_minus ≡ []) ⊎ (plus_or_minus ≡ codes "+") ⊎ (plus_or_minus ≡ codes "-"))
    × (digits ≢ []) × All IsDigit digits × (decimal_value digits < 2 ^ 128)

-- no newline stands in them
abbrev pub IsOnOneLine : List ℕ → Type 0
IsOnOneLine bytes = All (λ b. b ≢ 10) bytes

abbrev pub IsString : List ℕ → Type 0
IsString content = AreCharacters content × IsOnOneLine content × All (λ b. b < 128) content

abbrev pub signs : List (List ℕ)
signs =
    codes "<=" ∷ codes "<-" ∷ codes "=>" ∷ codes "=" ∷ codes "<" ∷ codes ">" ∷ codes "(" ∷ codes ")" ∷ codes "[" ∷ codes "]" ∷ codes "{" ∷ codes "}"
    ∷ codes "," ∷ codes ":" ∷ codes "." ∷ []

-- line ends and levels have no bytes of their own
abbrev pub IsSpelledToken : Token → List ℕ → Type 0
IsSpelledToken (word w) s = IsWord w × (s ≡ w)
IsSpelledToken (dash_word w) s = In dash_words w × (s ≡ w)
IsSpelledToken (integer i) s = IsIntegerText i × (s ≡ i)
IsSpelledToken (text content) s = IsString content × (s ≡ codes "\"" ++ content ++ codes "\"")
IsSpelledToken (sign w) s = In signs w × (s ≡ w)
IsSpelledToken annotations s = IsAnnotationBlock s
IsSpelledToken line_end s = ⊥
IsSpelledToken level_opens s = ⊥
IsSpelledToken level_closes s = ⊥
