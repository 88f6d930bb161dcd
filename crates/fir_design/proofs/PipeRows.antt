-- Worked runs of circuits by paths, computed from texts: memories that are read a tick later.
-- At each tick the numbers of all leaves are given by their paths, and their clocks once; what is not listed is zero, or no clock.
use Rattle.std.proofs.Common.{ℕ, List, [], ◌∷◌, ◌++◌, refl}
use Rattle.fir_base.specs.Ticks.{Tick}
use Rattle.fir_bits.specs.Literals.{least_width}
use Rattle.fir_meaning.specs.LeafPaths.{LeafPath}
use Rattle.fir_meaning.specs.MemoryWords.{addresses}
use Rattle.fir_leaf.proofs.TextTrees as text
use Rattle.fir_leaf.proofs.SmallCircuits.{tick}
use Rattle.fir_design.proofs.RowPaths.{field, own, port, result}
use Rattle.fir_design.proofs.SourceTests.{Runs, run_by}

-- a memory of three words that is read a tick later; the inputs are an address and the enable
abbrev disabled_ticks : List Tick
disabled_ticks =
    tick (0 ∷ []) (1 ∷ 1 ∷ []) ∷ tick (0 ∷ []) (1 ∷ 0 ∷ []) ∷ tick [] (2 ∷ 1 ∷ [])
    ∷ tick (0 ∷ []) (2 ∷ 1 ∷ []) ∷ tick [] (2 ∷ 0 ∷ []) ∷ tick (0 ∷ []) (3 ∷ 1 ∷ []) ∷ []

abbrev disabled_numbers : ℕ → ℕ → ℕ → List (LeafPath × ℕ)
disabled_numbers a e o = (own "a", a) ∷ (own "e", e) ∷ (own "o", o) ∷ (port "r" "addr", a) ∷ (port "r" "en", e) ∷ (port "r" "data", o) ∷ []

-- The pipe takes the word 5. At the next edge the enable is 0, so it takes zero in place of the same word. The third tick has no edge: zero stays, though the
-- enable is 1. Then it takes 6, which stays without an edge, though the enable is 0; and at address 3, past the depth, it takes zero.
pipe_disabled_runs : Runs text.pipe_disabled (0 ∷ 4 ∷ 5 ∷ 6 ∷ []) disabled_ticks
    (result (0 ∷ []) (5 ∷ 4 ∷ 5 ∷ 6 ∷ []) ∷ result (5 ∷ []) (0 ∷ 4 ∷ 5 ∷ 6 ∷ []) ∷ result (0 ∷ []) (0 ∷ 4 ∷ 5 ∷ 6 ∷ [])
    ∷ result (0 ∷ []) (6 ∷ 4 ∷ 5 ∷ 6 ∷ []) ∷ result (6 ∷ []) (6 ∷ 4 ∷ 5 ∷ 6 ∷ []) ∷ result (6 ∷ []) (0 ∷ 4 ∷ 5 ∷ 6 ∷ []) ∷ [])
unfolding least_width addresses
pipe_disabled_runs =
    run_by text.pipe_disabled refl ((own "clock", 0) ∷ (port "r" "clk", 0) ∷ []) (0 ∷ 4 ∷ 5 ∷ 6 ∷ []) disabled_ticks
    (disabled_numbers 1 1 0 ∷ disabled_numbers 1 0 5 ∷ disabled_numbers 2 1 0 ∷ disabled_numbers 2 1 0 ∷ disabled_numbers 2 0 6 ∷ disabled_numbers 3 1 6
    ∷ []) refl

-- a memory of three words with one port that reads a tick later, what is written too, and writes where k is 1; the inputs are an address, the enable, k, a
-- number and the mask
abbrev written_ticks : List Tick
written_ticks =
    tick (0 ∷ []) (1 ∷ 1 ∷ 1 ∷ 9 ∷ 1 ∷ []) ∷ tick (0 ∷ []) (1 ∷ 1 ∷ 0 ∷ 3 ∷ 0 ∷ []) ∷ tick [] (2 ∷ 1 ∷ 1 ∷ 3 ∷ 1 ∷ [])
    ∷ tick (0 ∷ []) (2 ∷ 1 ∷ 1 ∷ 3 ∷ 1 ∷ []) ∷ tick (0 ∷ []) (2 ∷ 1 ∷ 0 ∷ 3 ∷ 1 ∷ []) ∷ tick (0 ∷ []) (0 ∷ 1 ∷ 1 ∷ 8 ∷ 0 ∷ [])
    ∷ tick (0 ∷ []) (0 ∷ 0 ∷ 1 ∷ 8 ∷ 1 ∷ []) ∷ tick [] (0 ∷ 0 ∷ 0 ∷ 0 ∷ 0 ∷ []) ∷ []

abbrev written_numbers : ℕ → ℕ → ℕ → ℕ → ℕ → ℕ → List (LeafPath × ℕ)
written_numbers a e k u w o =
    (own "a", a) ∷ (own "e", e) ∷ (own "k", k) ∷ (own "u", u) ∷ (own "w", w) ∷ (own "o", o) ∷ (port "x" "addr", a) ∷ (port "x" "en", e) ∷ (port "x" "rdata", o)
    ∷ (port "x" "wmode", k) ∷ (port "x" "wdata", u) ∷ (port "x" "wmask", w) ∷ []

-- While the port writes 9, its pipe takes zero: neither the word 5 from before nor the 9. Then it reads the 9, for which it needs no mask. The third tick has
-- no edge, so nothing is written and the 9 stays; the fourth writes 3, and the pipe takes zero again, and then the 3. With the mask or the enable 0 nothing is
-- written, and the pipe takes zero, since k is 1.
pipe_while_writing_runs : Runs text.pipe_while_writing (7 ∷ 4 ∷ 5 ∷ 6 ∷ []) written_ticks
    (result (7 ∷ []) (0 ∷ 4 ∷ 9 ∷ 6 ∷ []) ∷ result (0 ∷ []) (9 ∷ 4 ∷ 9 ∷ 6 ∷ []) ∷ result (9 ∷ []) (9 ∷ 4 ∷ 9 ∷ 6 ∷ [])
    ∷ result (9 ∷ []) (0 ∷ 4 ∷ 9 ∷ 3 ∷ []) ∷ result (0 ∷ []) (3 ∷ 4 ∷ 9 ∷ 3 ∷ []) ∷ result (3 ∷ []) (0 ∷ 4 ∷ 9 ∷ 3 ∷ [])
    ∷ result (0 ∷ []) (0 ∷ 4 ∷ 9 ∷ 3 ∷ []) ∷ result (0 ∷ []) (0 ∷ 4 ∷ 9 ∷ 3 ∷ []) ∷ [])
unfolding least_width addresses
pipe_while_writing_runs =
    run_by text.pipe_while_writing refl ((own "clock", 0) ∷ (port "x" "clk", 0) ∷ []) (7 ∷ 4 ∷ 5 ∷ 6 ∷ []) written_ticks
    (written_numbers 1 1 1 9 1 7 ∷ written_numbers 1 1 0 3 0 0 ∷ written_numbers 2 1 1 3 1 9 ∷ written_numbers 2 1 1 3 1 9 ∷ written_numbers 2 1 0 3 1 0
    ∷ written_numbers 0 1 1 8 0 3 ∷ written_numbers 0 0 1 8 1 0 ∷ written_numbers 0 0 0 0 0 0 ∷ []) refl

-- a memory of two words that is read a tick later and written at the same address; the inputs are the address and a number
abbrev undefined_ticks : List Tick
undefined_ticks = tick (0 ∷ []) (1 ∷ 9 ∷ []) ∷ tick (0 ∷ []) (1 ∷ 3 ∷ []) ∷ tick [] (0 ∷ 0 ∷ []) ∷ []

abbrev undefined_numbers : ℕ → ℕ → ℕ → List (LeafPath × ℕ)
undefined_numbers a u o =
    (own "a", a) ∷ (own "u", u) ∷ (own "o", o) ∷ (port "r" "addr", a) ∷ (port "r" "en", 1) ∷ (port "r" "data", o)
    ∷ (port "w" "addr", a) ∷ (port "w" "en", 1) ∷ (port "w" "data", u) ∷ (port "w" "mask", 1) ∷ []

-- What is read of a word that is written at the same edge is the word from before: 5 and not 9, then 9 and not 3.
undefined_is_old_runs : Runs text.undefined_is_old (0 ∷ 4 ∷ 5 ∷ []) undefined_ticks
    (result (0 ∷ []) (5 ∷ 4 ∷ 9 ∷ []) ∷ result (5 ∷ []) (9 ∷ 4 ∷ 3 ∷ []) ∷ result (9 ∷ []) (9 ∷ 4 ∷ 3 ∷ []) ∷ [])
unfolding least_width addresses
undefined_is_old_runs =
    run_by text.undefined_is_old refl ((own "clock", 0) ∷ (port "r" "clk", 0) ∷ (port "w" "clk", 0) ∷ []) (0 ∷ 4 ∷ 5 ∷ []) undefined_ticks
    (undefined_numbers 1 9 0 ∷ undefined_numbers 1 3 5 ∷ undefined_numbers 0 0 9 ∷ []) refl

-- an instance b whose output is not its input, and an instance x with a memory of two words at the address that b gives; what is read goes back into b. The
-- memory is read a tick later, so the ring has values
abbrev ring_ticks : List Tick
ring_ticks = tick (0 ∷ []) [] ∷ tick (0 ∷ []) [] ∷ tick [] [] ∷ []

abbrev ring_numbers : ℕ → ℕ → List (LeafPath × ℕ)
ring_numbers o n =
    (own "o", o) ∷ (field (own "b") "i", o) ∷ (field (own "b") "o", n) ∷ (field (own "x") "a", n) ∷ (field (own "x") "d", o)
    ∷ (own "x" ++ port "r" "addr", n) ∷ (own "x" ++ port "r" "en", 1) ∷ (own "x" ++ port "r" "data", o) ∷ []

-- The pipe shows 0, so the address is 1 and it takes the 1 that stands there; then the address is 0, and it takes the 0.
pipe_in_a_ring_runs : Runs text.pipe_in_a_ring (0 ∷ 0 ∷ 1 ∷ []) ring_ticks
    (result (0 ∷ []) (1 ∷ 0 ∷ 1 ∷ []) ∷ result (1 ∷ []) (0 ∷ 0 ∷ 1 ∷ []) ∷ result (0 ∷ []) (0 ∷ 0 ∷ 1 ∷ []) ∷ [])
unfolding least_width addresses
pipe_in_a_ring_runs =
    run_by text.pipe_in_a_ring refl ((own "clock", 0) ∷ (field (own "x") "clock", 0) ∷ (own "x" ++ port "r" "clk", 0) ∷ []) (0 ∷ 0 ∷ 1 ∷ []) ring_ticks
    (ring_numbers 0 1 ∷ ring_numbers 1 0 ∷ ring_numbers 0 1 ∷ []) refl
