-- The words of a memory by their addresses (FIRRTL spec, "Memories"). There are none past the depth: a write there does nothing, a choice of this project.
use Rattle.std.specs.Prelude.{ℕ, zero, suc, ◌+◌, List, [], ◌∷◌, Option, Some, None, slice_index}

abbrev pub word_behind : List ℕ → Option ℕ → ℕ → ℕ
word_behind state None address = 0
word_behind state (Some place) address = slice_index state (place + address)

-- so many numbers, from one on
unfoldable pub addresses : ℕ → ℕ → List ℕ
addresses from zero = []
addresses from (suc n) = from ∷ addresses (from + 1) n
