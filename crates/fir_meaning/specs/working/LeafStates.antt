-- The shape of a leaf circuit's ticks and states (FIRRTL spec, "Ports", "Registers", "Memories").
-- The state is the words of registers and pipes, and behind them the arrays in their order, each word by word. A leaf or an array that is in no list has no
-- bits, and its value is zero.
use Rattle.std.specs.Prelude.{ℕ, ◌+◌, List, [], ◌∷◌, ◌++◌, map, flat_map, length, replicate, nat_eq, if◌then◌else◌, Option, Some, None, slice_index_or}
use Rattle.fir_base.specs.Ticks.{Shape}
use Rattle.fir_meaning.specs.working.LeafModules.{LeafArray}
use Rattle.fir_meaning.specs.LeafTypes.{no_bits, number, number_type}
use Rattle.fir_meaning.specs.working.LeafCircuits.{LeafCircuit, type_of_leaf}

abbrev pub no_array : LeafArray
no_array = record { declaration = 0; path = []; holds = number no_bits; words = 0; writings = [] }

abbrev pub array_of : LeafCircuit → ℕ → LeafArray
array_of c k = slice_index_or c.arrays k no_array

-- the width of each word of an array
abbrev pub array_width : LeafCircuit → ℕ → ℕ
array_width c k = (number_type (array_of c k).holds).width

-- the value of a leaf, where some leaves have these values
abbrev pub look : List ℕ → List ℕ → ℕ → ℕ
look (y ∷ ys) (v ∷ vs) x = if nat_eq y x then v else look ys vs x
look _ _ x = 0

-- the place of a leaf among others, counted from a number on
abbrev pub place_in : List ℕ → ℕ → ℕ → Option ℕ
place_in [] k x = None
place_in (y ∷ ys) k x = if nat_eq y x then Some k else place_in ys (k + 1) x

abbrev pub widths_of : LeafCircuit → List ℕ → List ℕ
widths_of c xs = map (λ x. (type_of_leaf c x).width) xs

abbrev pub widths_in : LeafCircuit → ℕ → List ℕ
widths_in c k = replicate (array_of c k).words (array_width c k)

abbrev pub shape : LeafCircuit → Shape
shape c = record {
  inputs = widths_of c c.inputs;
  clocks = length c.clock_inputs;
  state = widths_of c c.words ++ flat_map (widths_in c) c.array_order;
}
