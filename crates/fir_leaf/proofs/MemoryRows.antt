-- Worked runs over leaves, computed from texts: memories with two writers, with a mask and an enable, and two of them in one state.
use Rattle.std.proofs.Common.{ℕ, List, [], ◌∷◌, Option, Some, None, refl}
use Rattle.fir_base.specs.Ticks.{Tick}
use Rattle.fir_bits.specs.Literals.{least_width}
use Rattle.fir_meaning.specs.working.TermReads.{multiples}
use Rattle.fir_meaning.specs.working.Designs.{elaborated}
use Rattle.fir_meaning.specs.MemoryWords.{addresses}
use Rattle.fir_meaning.specs.working.LeafAllows.{Run}
use Rattle.fir_leaf.proofs.TextTrees as text
use Rattle.fir_leaf.proofs.RowTrees.{over_leaves}
use Rattle.fir_leaf.proofs.SmallCircuits.{shows, tick}
use Rattle.fir_leaf.proofs.SettledTests.{run_by}

-- a memory of three words that is read a tick later, with two writers; the inputs are two addresses, a number for each, and whether to write
abbrev clocks_of_writers : List (Option ℕ)
clocks_of_writers =
    Some 0 ∷ None ∷ None ∷ None ∷ None ∷ None ∷ None
    ∷ None ∷ None ∷ Some 0 ∷ None
    ∷ None ∷ None ∷ Some 0 ∷ None ∷ None
    ∷ None ∷ None ∷ Some 0 ∷ None ∷ None ∷ []

-- the numbers of all leaves, from those of the five inputs and of the output
abbrev numbers_of_writers : ℕ → ℕ → ℕ → ℕ → ℕ → ℕ → List ℕ
numbers_of_writers a b u v w o =
    0 ∷ a ∷ b ∷ u ∷ v ∷ w ∷ o
    ∷ a ∷ 1 ∷ 0 ∷ o
    ∷ a ∷ w ∷ 0 ∷ u ∷ 1
    ∷ b ∷ w ∷ 0 ∷ v ∷ 1 ∷ []

abbrev writers_ticks : List Tick
writers_ticks =
    tick (0 ∷ []) (1 ∷ 1 ∷ 5 ∷ 9 ∷ 1 ∷ []) ∷ tick (0 ∷ []) (3 ∷ 0 ∷ 7 ∷ 2 ∷ 1 ∷ [])
    ∷ tick (0 ∷ []) (1 ∷ 2 ∷ 4 ∷ 6 ∷ 0 ∷ []) ∷ tick [] (0 ∷ 0 ∷ 0 ∷ 0 ∷ 0 ∷ []) ∷ []

-- both write at address 1, and the later one wins; address 3 reads zero and keeps nothing
two_writers_old_runs : Run (over_leaves text.two_writers_old) (0 ∷ 0 ∷ 0 ∷ 0 ∷ []) writers_ticks
    (shows (0 ∷ []) (0 ∷ 0 ∷ 9 ∷ 0 ∷ []) ∷ shows (0 ∷ []) (0 ∷ 2 ∷ 9 ∷ 0 ∷ [])
    ∷ shows (0 ∷ []) (9 ∷ 2 ∷ 9 ∷ 0 ∷ []) ∷ shows (9 ∷ []) (9 ∷ 2 ∷ 9 ∷ 0 ∷ []) ∷ [])
unfolding elaborated least_width multiples addresses
two_writers_old_runs =
    run_by (over_leaves text.two_writers_old) clocks_of_writers (0 ∷ 0 ∷ 0 ∷ 0 ∷ []) writers_ticks
    (numbers_of_writers 1 1 5 9 1 0 ∷ numbers_of_writers 3 0 7 2 1 0 ∷ numbers_of_writers 1 2 4 6 0 0 ∷ numbers_of_writers 0 0 0 0 0 9 ∷ []) refl

-- the same, where a word that is written at the edge is read as it is then
two_writers_new_runs : Run (over_leaves text.two_writers_new) (0 ∷ 0 ∷ 0 ∷ 0 ∷ []) writers_ticks
    (shows (0 ∷ []) (9 ∷ 0 ∷ 9 ∷ 0 ∷ []) ∷ shows (9 ∷ []) (0 ∷ 2 ∷ 9 ∷ 0 ∷ [])
    ∷ shows (0 ∷ []) (9 ∷ 2 ∷ 9 ∷ 0 ∷ []) ∷ shows (9 ∷ []) (9 ∷ 2 ∷ 9 ∷ 0 ∷ []) ∷ [])
unfolding elaborated least_width multiples addresses
two_writers_new_runs =
    run_by (over_leaves text.two_writers_new) clocks_of_writers (0 ∷ 0 ∷ 0 ∷ 0 ∷ []) writers_ticks
    (numbers_of_writers 1 1 5 9 1 0 ∷ numbers_of_writers 3 0 7 2 1 9 ∷ numbers_of_writers 1 2 4 6 0 0 ∷ numbers_of_writers 0 0 0 0 0 9 ∷ []) refl

-- a memory of three words that is read at once; the inputs are an address, what enables both ports, the mask, and a number
abbrev clocks_at_once : List (Option ℕ)
clocks_at_once =
    Some 0 ∷ None ∷ None ∷ None ∷ None ∷ None
    ∷ None ∷ None ∷ Some 0 ∷ None
    ∷ None ∷ None ∷ Some 0 ∷ None ∷ None ∷ []

abbrev numbers_at_once : ℕ → ℕ → ℕ → ℕ → ℕ → List ℕ
numbers_at_once a e k u o =
    0 ∷ a ∷ e ∷ k ∷ u ∷ o
    ∷ a ∷ e ∷ 0 ∷ o
    ∷ a ∷ e ∷ 0 ∷ u ∷ k ∷ []

abbrev read_at_once_ticks : List Tick
read_at_once_ticks =
    tick (0 ∷ []) (1 ∷ 1 ∷ 0 ∷ 7 ∷ []) ∷ tick (0 ∷ []) (1 ∷ 1 ∷ 1 ∷ 7 ∷ []) ∷ tick [] (1 ∷ 1 ∷ 1 ∷ 5 ∷ [])
    ∷ tick [] (1 ∷ 0 ∷ 1 ∷ 5 ∷ []) ∷ tick (0 ∷ []) (3 ∷ 1 ∷ 1 ∷ 5 ∷ []) ∷ []

-- a mask of 0 keeps the word, an enable of 0 reads zero, and so does an address past the depth
read_at_once_runs : Run (over_leaves text.read_at_once) (0 ∷ 0 ∷ 0 ∷ []) read_at_once_ticks
    (shows (0 ∷ []) (0 ∷ 0 ∷ 0 ∷ []) ∷ shows (0 ∷ []) (0 ∷ 7 ∷ 0 ∷ []) ∷ shows (7 ∷ []) (0 ∷ 7 ∷ 0 ∷ [])
    ∷ shows (0 ∷ []) (0 ∷ 7 ∷ 0 ∷ []) ∷ shows (0 ∷ []) (0 ∷ 7 ∷ 0 ∷ []) ∷ [])
unfolding elaborated least_width multiples addresses
read_at_once_runs =
    run_by (over_leaves text.read_at_once) clocks_at_once (0 ∷ 0 ∷ 0 ∷ []) read_at_once_ticks
    (numbers_at_once 1 1 0 7 0 ∷ numbers_at_once 1 1 1 7 0 ∷ numbers_at_once 1 1 1 5 7 ∷ numbers_at_once 1 0 1 5 0 ∷ numbers_at_once 3 1 1 5 0 ∷ []) refl

-- a memory m of three words that one port reads and writes, by k, and a memory n of four words in an instance, which stands first in the state. The inputs are
-- an address, k, and a number, and the outputs show a word of m and one of n
abbrev clocks_of_two : List (Option ℕ)
clocks_of_two =
    Some 0 ∷ None ∷ None ∷ None ∷ None ∷ None
    ∷ Some 0 ∷ None ∷ None ∷ None ∷ None
    ∷ None ∷ None ∷ Some 0 ∷ None ∷ None ∷ None ∷ None
    ∷ None ∷ None ∷ Some 0 ∷ None
    ∷ None ∷ None ∷ Some 0 ∷ None ∷ None ∷ []

abbrev numbers_of_two : ℕ → ℕ → ℕ → ℕ → ℕ → List ℕ
numbers_of_two a k u o p =
    0 ∷ a ∷ k ∷ u ∷ o ∷ p
    ∷ 0 ∷ a ∷ k ∷ u ∷ p
    ∷ a ∷ 1 ∷ 0 ∷ o ∷ k ∷ u ∷ 1
    ∷ a ∷ 1 ∷ 0 ∷ p
    ∷ a ∷ k ∷ 0 ∷ u ∷ 1 ∷ []

abbrev two_memories_ticks : List Tick
two_memories_ticks =
    tick (0 ∷ []) (1 ∷ 1 ∷ 7 ∷ []) ∷ tick (0 ∷ []) (1 ∷ 0 ∷ 6 ∷ []) ∷ tick (0 ∷ []) (3 ∷ 1 ∷ 6 ∷ [])
    ∷ tick [] (3 ∷ 0 ∷ 0 ∷ []) ∷ tick [] (0 ∷ 0 ∷ 0 ∷ []) ∷ []

-- while m is written it reads zero; address 3 is past the depth of m alone
two_memories_runs : Run (over_leaves text.two_memories) (1 ∷ 2 ∷ 3 ∷ 8 ∷ 4 ∷ 5 ∷ 9 ∷ []) two_memories_ticks
    (shows (0 ∷ 2 ∷ []) (1 ∷ 7 ∷ 3 ∷ 8 ∷ 4 ∷ 7 ∷ 9 ∷ []) ∷ shows (7 ∷ 7 ∷ []) (1 ∷ 7 ∷ 3 ∷ 8 ∷ 4 ∷ 7 ∷ 9 ∷ [])
    ∷ shows (0 ∷ 8 ∷ []) (1 ∷ 7 ∷ 3 ∷ 6 ∷ 4 ∷ 7 ∷ 9 ∷ []) ∷ shows (0 ∷ 6 ∷ []) (1 ∷ 7 ∷ 3 ∷ 6 ∷ 4 ∷ 7 ∷ 9 ∷ [])
    ∷ shows (4 ∷ 1 ∷ []) (1 ∷ 7 ∷ 3 ∷ 6 ∷ 4 ∷ 7 ∷ 9 ∷ []) ∷ [])
unfolding elaborated least_width multiples addresses
two_memories_runs =
    run_by (over_leaves text.two_memories) clocks_of_two (1 ∷ 2 ∷ 3 ∷ 8 ∷ 4 ∷ 5 ∷ 9 ∷ []) two_memories_ticks
    (numbers_of_two 1 1 7 0 2 ∷ numbers_of_two 1 0 6 7 7 ∷ numbers_of_two 3 1 6 0 8 ∷ numbers_of_two 3 0 0 0 6 ∷ numbers_of_two 0 0 0 4 1 ∷ []) refl
