-- The words of an init line, and what comes of them.
use Rattle.std.specs.Prelude.{◌≡◌, ℕ, ◌<◌, ◌≤◌, ◌^◌, List, [], ◌∷◌, length, codes, Some, Result, Ok, Err}
use Rattle.fir_base.specs.declared.refused.Refused.{Refused}
use Rattle.fir_base.specs.declared.refused.Refused.TheVariants.{Fault, Memory}
use Rattle.trace_text.specs.declared.fault.Cause.{Cause}
use Rattle.trace_text.specs.declared.init_line.InitWord.{InitWord}
use Rattle.trace_text.specs.declared.init_words.InitWords.{InitWords}
use Rattle.trace_text.specs.declared.init_words.InitWords.TheVariants.{Register, Array}
use Rattle.trace_text.specs.Lines.{line_limit, words_of}
use Rattle.trace_text.specs.Shapes.{TraceShape, state_widths}
use Rattle.trace_text.specs.SpelledLines.{IsInitLine}
use Rattle.trace_text.specs.LineFaults.{init_count, init_words, wide}
use Rattle.trace_text.specs.Spelling.{hexadecimal_of}
use Rattle.trace_text.specs.working.Readings.{first_cause}

-- the words behind `init`
abbrev pub words_behind : InitWords → List (List ℕ)
words_behind (Register name digits) = name.now ∷ digits.now ∷ []
words_behind (Array name address digits) = name.now ∷ address.now ∷ digits.now ∷ []

-- the words of a line that begins with `init`, where they are three or four
abbrev pub GivesWords : List (List ℕ) → Result InitWords Cause → Type 0
GivesWords words (Ok given) = words ≡ codes "init" ∷ words_behind given
GivesWords words (Err cause) = init_count (length words) ≡ cause ∷ []

-- the number of the digits, which are word k, where it fits the width
abbrev pub GivesValue : ℕ → ℕ → List ℕ → Result ℕ (Refused Cause) → Type 0
GivesValue k width digits (Ok value) = (hexadecimal_of digits ≡ value) × (value < 2 ^ width)
GivesValue k width digits (Err (Fault cause)) = wide k width digits ≡ cause ∷ []
GivesValue k width digits (Err Memory) = Unit {0}

-- what comes of the words behind `init`: in each line that has them they give the word of the state its value
abbrev pub ReadsInitWords : TraceShape → List (List ℕ) → Result InitWord (Refused Cause) → Type 0
ReadsInitWords shape words (Ok given) =
    ((line : List ℕ) → length line ≤ line_limit → words_of line ≡ codes "init" ∷ words → IsInitLine shape line given.place given.value)
    × (given.place < length (state_widths shape.state))
ReadsInitWords shape words (Err (Fault cause)) = first_cause (init_words shape words) ≡ Some cause
ReadsInitWords shape words (Err Memory) = Unit {0}
