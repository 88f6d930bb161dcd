-- The shape of a trace: which inputs and clocks a tick has, and which words the state.
-- A register is one word and an array as many as its depth; the registers stand before the arrays. Widths are 1 to 128, a depth is at least 1, all arrays
-- together have at most 4194304 words, and the names are distinct words.
use Rattle.std.specs.Prelude.{ℕ, ◌+◌, List, [], ◌∷◌, map, flat_map, if◌then◌else◌, Option, Some, None, unwrap_or, replicate}
use Rattle.std.specs.Str.{bytes_eq}
use Rattle.fir_base.specs.Ticks.{Shape}
use Rattle.trace_text.specs.declared.shape.StateWord.{StateWord}
use Rattle.trace_text.specs.declared.shape.FoundWord.{FoundWord}

pub record TraceShape : Type 0 where
  pub inputs : List ℕ
  pub clocks : ℕ
  pub state : List StateWord

-- how many words there are under one name
abbrev pub size_of : StateWord → ℕ
size_of s = unwrap_or s.depth 1

abbrev pub state_widths : List StateWord → List ℕ
state_widths = flat_map (λ s. replicate (size_of s) s.width)

-- the width of a word, and the depth where it is an array
abbrev pub WordKind : Type 0
WordKind = ℕ × Option ℕ

abbrev pub word_kinds : List StateWord → List WordKind
word_kinds = map (λ s. (s.width, s.depth))

-- the shape of states and ticks
abbrev pub plain : TraceShape → Shape
plain shape = record { inputs = shape.inputs; clocks = shape.clocks; state = state_widths shape.state }

-- what a name stands for, where the words before have so many places
abbrev pub found_from : ℕ → List StateWord → List ℕ → Option FoundWord
found_from place [] name = None
found_from place (s ∷ ss) name =
    if bytes_eq s.name name then Some (record { place = place; width = s.width; depth = s.depth }) else found_from (place + size_of s) ss name

abbrev pub found : TraceShape → List ℕ → Option FoundWord
found shape name = found_from 0 shape.state name
