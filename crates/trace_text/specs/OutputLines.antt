-- The lines of a simulation.
-- A line has the outputs and, where the state is shown, a word `|` and the words of the state after the tick, parted by single spaces, each in lower case
-- with as many digits as its width needs; where rounds are told, the words `;` and their number end it. A line without words is empty.
use Rattle.std.specs.Prelude.{ℕ, ◌+◌, ◌-◌, ◌/◌, List, [], ◌∷◌, ◌++◌, length, map, codes, decimal, false, Option, Some, None, replicate}
use Rattle.std.specs.Fmt.{digits}
use Rattle.fir_bits.specs.Values.{BitVector}

-- the digits that a width needs
abbrev pub digit_count : ℕ → ℕ
digit_count width = (width + 3) / 4

abbrev pub padded : ℕ → List ℕ → List ℕ
padded count ds = replicate (count - length ds) 48 ++ ds

abbrev pub value_text : BitVector → List ℕ
value_text v = padded (digit_count v.width) (digits 16 false v.number)

abbrev pub words_of_state : Option (List BitVector) → List (List ℕ)
words_of_state None = []
words_of_state (Some state) = codes "|" ∷ map value_text state

abbrev pub round_words : Option ℕ → List (List ℕ)
round_words None = []
round_words (Some rounds) = codes ";" ∷ decimal rounds ∷ []

abbrev pub line_words : List BitVector → Option (List BitVector) → Option ℕ → List (List ℕ)
line_words outputs state rounds = map value_text outputs ++ words_of_state state ++ round_words rounds

-- words parted by single spaces
abbrev pub spaced : List (List ℕ) → List ℕ
spaced [] = []
spaced (w ∷ []) = w
spaced (w ∷ v ∷ ws) = w ++ 32 ∷ spaced (v ∷ ws)

abbrev pub line_text : List BitVector → Option (List BitVector) → Option ℕ → List ℕ
line_text outputs state rounds = spaced (line_words outputs state rounds) ++ codes "\n"
