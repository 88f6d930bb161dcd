-- What is wrong with a line, in the order in which it is told: X05, X02, X01, X04, X03, and within one code by the first word.
-- X05: the line is too long. X02: a wrong number of words; an init line has 3 or 4. X01: a word is not spelled as its place needs, or an init line stands
-- after a tick. X04: no such word, address or clock. X03: a value does not fit its width.
use Rattle.std.specs.Prelude.{ℕ, ◌+◌, ◌^◌, List, [], ◌∷◌, ◌++◌, length, codes, Bool, true, false, nat_eq, nat_le, nat_lt, if◌then◌else◌, Option, Some, None}
use Rattle.std.specs.Str.{bytes_eq}
use Rattle.ver_words.specs.Names.{is_word}
use Rattle.trace_text.specs.declared.fault.Cause.{Cause}
use Rattle.trace_text.specs.declared.fault.Cause.TheVariants.{Misspelled, Count, Wide, Absent, Long}
use Rattle.trace_text.specs.Lines.{line_limit, words_of, is_remark}
use Rattle.trace_text.specs.Spelling.{is_value, hexadecimal_of, is_decimal, decimal_of, listed, is_no_clock, is_clock_list}
use Rattle.trace_text.specs.declared.shape.FoundWord.{FoundWord}
use Rattle.trace_text.specs.Shapes.{TraceShape, found}

abbrev pub unless : Bool → Cause → List Cause
unless holds cause = if holds then [] else cause ∷ []

-- of n words
abbrev pub tick_count : ℕ → ℕ → List Cause
tick_count wanted n = unless (nat_eq n wanted) (Count n wanted)

abbrev pub init_count : ℕ → List Cause
init_count n = if nat_lt n 3 then Count n 3 ∷ [] else unless (nat_le n 4) (Count n 4)

-- the words from number k on are values
abbrev pub misspelled_values : ℕ → List (List ℕ) → List Cause
misspelled_values k [] = []
misspelled_values k (w ∷ ws) = unless (is_value w) (Misspelled k) ++ misspelled_values (k + 1) ws

abbrev pub wide : ℕ → ℕ → List ℕ → List Cause
wide k width w = unless (nat_lt (hexadecimal_of w) (2 ^ width)) (Wide k width)

abbrev pub wide_values : ℕ → List ℕ → List (List ℕ) → List Cause
wide_values k [] ws = []
wide_values k (width ∷ widths) [] = []
wide_values k (width ∷ widths) (w ∷ ws) = wide k width w ++ wide_values (k + 1) widths ws

-- the pieces of a clock list, of which the first begins at the place, name clocks
abbrev pub absent_clocks : ℕ → ℕ → List (List ℕ) → List Cause
absent_clocks clocks place [] = []
absent_clocks clocks place (w ∷ ws) = unless (nat_lt (decimal_of w) clocks) (Absent place (length w)) ++ absent_clocks clocks (place + length w + 1) ws

abbrev pub absent_in_list : ℕ → List ℕ → List Cause
absent_in_list clocks w = if is_no_clock w then [] else absent_clocks clocks 0 (listed w)

abbrev pub tick_faults : TraceShape → List ℕ → List (List ℕ) → List Cause
tick_faults shape w ws =
    tick_count (1 + length shape.inputs) (1 + length ws) ++ unless (is_clock_list w) (Misspelled 1) ++ misspelled_values 2 ws
    ++ absent_in_list shape.clocks w ++ wide_values 2 shape.inputs ws

-- a name stands behind `init` and a space
abbrev pub absent_name : List ℕ → List Cause
absent_name name = Absent 5 (length name) ∷ []

abbrev pub register_named : Option FoundWord → List ℕ → List Cause
register_named None name = absent_name name
register_named (Some f) name = if is_array f.depth then absent_name name else []
  where
    is_array : Option ℕ → Bool
    is_array None = false
    is_array (Some depth) = true

abbrev pub address_within : Option ℕ → List ℕ → List ℕ → List Cause
address_within None name address = absent_name name
address_within (Some depth) name address = unless (nat_lt (decimal_of address) depth) (Absent (6 + length name) (length address))

abbrev pub array_named : Option FoundWord → List ℕ → List ℕ → List Cause
array_named None name address = absent_name name
array_named (Some f) name address = address_within f.depth name address

abbrev pub wide_word : ℕ → Option FoundWord → List ℕ → List Cause
wide_word k None w = []
wide_word k (Some f) w = wide k f.width w

-- the words behind `init`
abbrev pub init_words : TraceShape → List (List ℕ) → List Cause
init_words shape (name ∷ digits ∷ []) =
    unless (is_word name) (Misspelled 2) ++ unless (is_value digits) (Misspelled 3) ++ register_named (found shape name) name
    ++ wide_word 3 (found shape name) digits
init_words shape (name ∷ address ∷ digits ∷ []) =
    unless (is_word name) (Misspelled 2) ++ unless (is_decimal address) (Misspelled 3) ++ unless (is_value digits) (Misspelled 4)
    ++ array_named (found shape name) name address ++ wide_word 4 (found shape name) digits
init_words shape _ = []

abbrev pub init_faults : TraceShape → Bool → List (List ℕ) → List Cause
init_faults shape after ws = init_count (1 + length ws) ++ (if after then Misspelled 1 ∷ [] else init_words shape ws)

-- the words of a line that counts
abbrev pub word_faults : TraceShape → Bool → List (List ℕ) → List Cause
word_faults shape after [] = []
word_faults shape after (w ∷ ws) = if bytes_eq w (codes "init") then init_faults shape after ws else tick_faults shape w ws

-- what is wrong with a line that stands after a tick, or before all
abbrev pub line_faults : TraceShape → Bool → List ℕ → List Cause
line_faults shape after line =
    unless (nat_le (length line) line_limit) Long ++ (if is_remark line then [] else word_faults shape after (words_of line))
