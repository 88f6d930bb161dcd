-- The order in which the processes of a tree take their steps in a round, for a number.
-- The numbers of the processes are shuffled: from the last entry down to the second, each changes places with one that is drawn from it and those before it.
-- A draw is the next number of a linear congruence modulo 2^64, without its low 33 bits.
use Rattle.std.specs.Prelude.{ℕ, zero, suc, ◌+◌, ◌-◌, ◌*◌, ◌/◌, ◌%◌, ◌^◌, List, [], ◌∷◌, slice_index, slice_set}

-- so many numbers, from one on
abbrev pub numbers_from : ℕ → ℕ → List ℕ
numbers_from first zero = []
numbers_from first (suc count) = first ∷ numbers_from (first + 1) count

abbrev pub next_seed : ℕ → ℕ
next_seed s = (s * 6364136223846793005 + 1442695040888963407) % 2 ^ 64

-- two entries change places
abbrev pub exchanged : ℕ → ℕ → List ℕ → List ℕ
exchanged i j list = slice_set (slice_set list i (slice_index list j)) j (slice_index list i)

-- the entries from number `i` down to number 1
unfoldable pub shuffled : ℕ → ℕ → List ℕ → List ℕ
shuffled zero s list = list
shuffled (suc i) s list = shuffled i (next_seed s) (exchanged (suc i) (next_seed s / 2 ^ 33 % (suc i + 1)) list)

-- of so many processes, for this number
abbrev pub round_for : ℕ → ℕ → List ℕ
round_for count number = shuffled (count - 1) number (numbers_from 0 count)
