-- The arrays of a net, and where their words stand in the state (FIRRTL spec, "Memories").
-- Behind the words of the registers the state has the arrays that have bits, in an order of their own, each word by word from address 0 on.
use Rattle.std.specs.Prelude.{ℕ, zero, suc, ◌+◌, List, [], ◌∷◌, flat_map, length, replicate, slice_get, slice_index, nat_eq, if◌then◌else◌, Option, Some, None, option_map, unwrap_or}
use Rattle.fir_net.specs.declared.array.Array.{Array}
use Rattle.fir_net.specs.declared.net.FlatNet.{FlatNet}

-- how many words an array has, and how wide they are
abbrev pub words_of : List Array → ℕ → ℕ
words_of arrays k = unwrap_or (option_map (λ a. a.words) (slice_get arrays k)) 0

abbrev pub word_width : List Array → ℕ → ℕ
word_width arrays k = unwrap_or (option_map (λ a. a.width) (slice_get arrays k)) 0

-- where an array begins, of arrays of which the first begins at a place
abbrev pub begin_from : List Array → ℕ → List ℕ → ℕ → Option ℕ
begin_from arrays place [] k = None
begin_from arrays place (m ∷ ms) k = if nat_eq m k then Some place else begin_from arrays (place + words_of arrays m) ms k

abbrev pub begin_of : FlatNet → ℕ → Option ℕ
begin_of net k = begin_from net.arrays (length net.state) net.array_order k

-- the word at an address; an array that is not in the state has words of no bits
abbrev pub word_in : List ℕ → Option ℕ → ℕ → ℕ
word_in state None address = 0
word_in state (Some place) address = slice_index state (place + address)

-- the widths of all words, in the order of the state
abbrev pub widths_of : FlatNet → ℕ → List ℕ
widths_of net k = replicate (words_of net.arrays k) (word_width net.arrays k)

abbrev pub array_widths : FlatNet → List ℕ
array_widths net = flat_map (widths_of net) net.array_order

-- so many addresses, from one on
unfoldable pub addresses : ℕ → ℕ → List ℕ
addresses from zero = []
addresses from (suc n) = from ∷ addresses (from + 1) n
