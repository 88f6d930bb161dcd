-- Which shapes a trace can have, and the shape that the code holds.
-- Widths are 1 to 128, a depth is at least 1, the registers stand before the arrays, all arrays together have at most 4194304 words, and the names are
-- distinct words.
use Rattle.std.specs.Prelude.{◌≡◌, ℕ, ◌≤◌, List, [], ◌∷◌, map, true, unwrap_or, is_some, is_none, IsTrue, sum_by, MatchBool}
use Rattle.std.specs.List.{AllByRecursion}
use Rattle.fir_base.specs.Lists.{Distinct}
use Rattle.ver_words.specs.Names.{is_word}
use Rattle.trace_text.specs.declared.shape.StateWord.{StateWord}
use Rattle.trace_text.specs.Shapes.{TraceShape, size_of}

-- the most words that all arrays have together
abbrev pub word_limit : ℕ
word_limit = 4194304

abbrev pub shape_of : List ℕ → ℕ → List StateWord → TraceShape
shape_of inputs clocks state = record { inputs = inputs; clocks = clocks; state = state }

abbrev pub IsWidth : ℕ → Type 0
IsWidth width = (1 ≤ width) × (width ≤ 128)

pub record IsStateWord (s : StateWord) : Type 0 where
  pub word : IsTrue (is_word s.name)
  pub narrow : IsWidth s.width
  pub filled : 1 ≤ size_of s

abbrev pub AreArrays : List StateWord → Type 0
AreArrays = AllByRecursion (λ s. is_some s.depth ≡ true)

-- registers, then arrays
abbrev pub AreRegistersFirst : List StateWord → Type 0
AreRegistersFirst [] = Unit {0}
AreRegistersFirst (s ∷ ss) = MatchBool (is_none s.depth) (AreRegistersFirst ss) (AreArrays ss)

abbrev pub array_size : StateWord → ℕ
array_size s = unwrap_or s.depth 0

pub record IsShape (shape : TraceShape) : Type 0 where
  pub inputs_narrow : AllByRecursion IsWidth shape.inputs
  pub words : AllByRecursion IsStateWord shape.state
  pub registers_first : AreRegistersFirst shape.state
  pub distinct : Distinct (map (λ s. s.name) shape.state)
  pub few : sum_by array_size shape.state ≤ word_limit
