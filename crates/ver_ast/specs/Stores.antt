-- The words that registers and arrays keep: a list of words for each name.
-- The state is a list of numbers: the words of one name behind those of the other.
use Rattle.std.specs.Prelude.{ℕ, List, [], ◌∷◌, flat_map, take, drop, slice_index, if◌then◌else◌}
use Rattle.std.specs.Str.{bytes_eq}
use Rattle.ver_ast.specs.Nets.{Variable}

abbrev pub Store : Type 0
Store = List ℕ → List ℕ

abbrev pub store_of : List Variable → List ℕ → Store
store_of [] state name = []
store_of (k ∷ ks) state name = if bytes_eq k.name name then take k.depth state else store_of ks (drop k.depth state) name

abbrev pub state_of : List Variable → Store → List ℕ
state_of ks store = flat_map (λ k. store k.name) ks

-- the word of a register
abbrev pub stored : Store → List ℕ → ℕ
stored store name = slice_index (store name) 0
