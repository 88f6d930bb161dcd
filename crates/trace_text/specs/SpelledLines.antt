-- The lines of a trace that are spelled: those that give a word of the state its initial value, and those of ticks.
use Rattle.std.specs.Prelude.{◌≡◌, ℕ, ◌+◌, ◌^◌, ◌<◌, ◌≤◌, List, [], ◌∷◌, length, map, codes, true, Some, None, ◌⊎◌}
use Rattle.std.specs.List.{AllByRecursion}
use Rattle.fir_base.specs.Ticks.{Tick, FitEach, AreClocks}
use Rattle.ver_words.specs.Names.{is_word}
use Rattle.trace_text.specs.Lines.{line_limit, words_of}
use Rattle.trace_text.specs.Spelling.{is_value, hexadecimal_of, is_decimal, decimal_of, is_clock_list, clocks_of}
use Rattle.trace_text.specs.Shapes.{TraceShape, found}

-- `init NAME HEX`: the value of a register
pub record IsRegisterLine (shape : TraceShape) (line : List ℕ) (place value : ℕ) : Type 0 where
  pub short : length line ≤ line_limit
  pub name : List ℕ
  pub digits : List ℕ
  pub words : words_of line ≡ codes "init" ∷ name ∷ digits ∷ []
  pub name_spelled : is_word name ≡ true
  pub width : ℕ
  pub named : found shape name ≡ Some (record { place = place; width = width; depth = None })
  pub digits_spelled : is_value digits ≡ true
  pub is : hexadecimal_of digits ≡ value
  pub fits : value < 2 ^ width

-- `init NAME ADDR HEX`: the value of a word of an array
pub record IsArrayLine (shape : TraceShape) (line : List ℕ) (place value : ℕ) : Type 0 where
  pub short : length line ≤ line_limit
  pub name : List ℕ
  pub address : List ℕ
  pub digits : List ℕ
  pub words : words_of line ≡ codes "init" ∷ name ∷ address ∷ digits ∷ []
  pub name_spelled : is_word name ≡ true
  pub first : ℕ
  pub width : ℕ
  pub depth : ℕ
  pub named : found shape name ≡ Some (record { place = first; width = width; depth = Some depth })
  pub address_spelled : is_decimal address ≡ true
  pub within : decimal_of address < depth
  pub place_is : first + decimal_of address ≡ place
  pub digits_spelled : is_value digits ≡ true
  pub is : hexadecimal_of digits ≡ value
  pub fits : value < 2 ^ width

-- the line gives the word of the state at the place this value
abbrev pub IsInitLine : TraceShape → List ℕ → ℕ → ℕ → Type 0
IsInitLine shape line place value = IsRegisterLine shape line place value ⊎ IsArrayLine shape line place value

-- the clocks that rise, then a value for each input
pub record IsTickLine (shape : TraceShape) (line : List ℕ) (tick : Tick) : Type 0 where
  pub short : length line ≤ line_limit
  pub clock_list : List ℕ
  pub values : List (List ℕ)
  pub words : words_of line ≡ clock_list ∷ values
  pub clocks_spelled : is_clock_list clock_list ≡ true
  pub clocks_are : clocks_of clock_list ≡ tick.clocks
  pub clocks_rise : AreClocks 0 shape.clocks tick.clocks
  pub values_spelled : AllByRecursion (λ w. is_value w ≡ true) values
  pub values_are : map hexadecimal_of values ≡ tick.inputs
  pub inputs_fit : FitEach shape.inputs tick.inputs
