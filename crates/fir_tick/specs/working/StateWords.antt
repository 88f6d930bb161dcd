-- What the shape of a net's traces has: the width of each input that has bits, the clocks, and the words and arrays of the state.
use Rattle.std.specs.Prelude.{ℕ, List, [], ◌∷◌, ◌++◌, Bool, true, false, Option, Some, None, flat_map, map, nat_eq, if◌then◌else◌, unwrap_or}
use Rattle.fir_net.specs.declared.leaf.Role.{Role}
use Rattle.fir_net.specs.declared.leaf.Role.TheVariants as role
use Rattle.fir_net.specs.declared.leaf.Leaf.{Leaf}
use Rattle.fir_net.specs.declared.net.FlatNet.{FlatNet}
use Rattle.fir_net.specs.working.Arrays.{word_width, words_of}
use Rattle.fir_net.specs.working.Values.{leaf_width}
use Rattle.fir_net_names.specs.working.LeafNamed.{name_at}
use Rattle.trace_text.specs.declared.shape.StateWord.{StateWord}

abbrev pub input_width : Role → ℕ → List ℕ
input_width role.Input width = if nat_eq width 0 then [] else (width ∷ [])
input_width _ width = []

abbrev pub input_widths : List Leaf → List ℕ
input_widths = flat_map (λ l. input_width l.role l.width)

abbrev pub is_clock : Role → Bool
is_clock role.Clock = true
is_clock _ = false

-- the word of the register or the pipe whose leaf has that number
abbrev pub state_word : FlatNet → List (Option (List ℕ)) → ℕ → StateWord
state_word net names k = record { name = unwrap_or (name_at names k) []; width = leaf_width net.leaves k; depth = None }

-- the array of that number
abbrev pub array_word : FlatNet → List (Option (List ℕ)) → ℕ → StateWord
array_word net names k = record { name = unwrap_or (name_at names k) []; width = word_width net.arrays k; depth = Some (words_of net.arrays k) }

-- the words of the state in their order, and then its arrays in theirs
abbrev pub state_words : FlatNet → List (Option (List ℕ)) → List (Option (List ℕ)) → List StateWord
state_words net leaves arrays = map (state_word net leaves) net.state ++ map (array_word net arrays) net.array_order
