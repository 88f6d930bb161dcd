-- Worked runs of circuits by paths, computed from texts: what is written into memories.
-- At each tick the numbers of all leaves are given by their paths, and their clocks once; what is not listed is zero, or no clock.
use Rattle.std.proofs.Common.{ℕ, List, [], ◌∷◌, refl}
use Rattle.fir_base.specs.Ticks.{Tick}
use Rattle.fir_bits.specs.Literals.{least_width}
use Rattle.fir_meaning.specs.LeafPaths.{LeafPath}
use Rattle.fir_meaning.specs.MemoryWords.{addresses}
use Rattle.fir_leaf.proofs.TextTrees as text
use Rattle.fir_leaf.proofs.SmallCircuits.{tick}
use Rattle.fir_design.proofs.RowPaths.{field, own, port, result}
use Rattle.fir_design.proofs.SourceTests.{Runs, run_by}

-- a memory of two words, each of a leaf x and a leaf y, of which the x stand in front in the state; the inputs are an address, the masks of x and of y, and a
-- number for each
abbrev masked_ticks : List Tick
masked_ticks =
    tick (0 ∷ []) (1 ∷ 1 ∷ 0 ∷ 9 ∷ 8 ∷ []) ∷ tick (0 ∷ []) (0 ∷ 0 ∷ 1 ∷ 7 ∷ 6 ∷ []) ∷ tick (0 ∷ []) (1 ∷ 0 ∷ 0 ∷ 5 ∷ 5 ∷ [])
    ∷ tick (0 ∷ []) (1 ∷ 1 ∷ 1 ∷ 10 ∷ 11 ∷ []) ∷ tick [] (0 ∷ 1 ∷ 1 ∷ 0 ∷ 0 ∷ []) ∷ []

abbrev masked_numbers : ℕ → ℕ → ℕ → ℕ → ℕ → ℕ → ℕ → List (LeafPath × ℕ)
masked_numbers a p q u v x y =
    (own "a", a) ∷ (own "p", p) ∷ (own "q", q) ∷ (own "u", u) ∷ (own "v", v) ∷ (field (own "o") "x", x) ∷ (field (own "o") "y", y)
    ∷ (port "r" "addr", a) ∷ (port "r" "en", 1) ∷ (field (port "r" "data") "x", x) ∷ (field (port "r" "data") "y", y)
    ∷ (port "w" "addr", a) ∷ (port "w" "en", 1) ∷ (field (port "w" "data") "x", u) ∷ (field (port "w" "data") "y", v)
    ∷ (field (port "w" "mask") "x", p) ∷ (field (port "w" "mask") "y", q) ∷ []

-- Only the leaf whose mask is 1 changes: x of word 1, then y of word 0, then neither, and then both of word 1; without an edge nothing does.
masked_leaves_runs : Runs text.masked_leaves (1 ∷ 2 ∷ 3 ∷ 4 ∷ []) masked_ticks
    (result (2 ∷ 4 ∷ []) (1 ∷ 9 ∷ 3 ∷ 4 ∷ []) ∷ result (1 ∷ 3 ∷ []) (1 ∷ 9 ∷ 6 ∷ 4 ∷ []) ∷ result (9 ∷ 4 ∷ []) (1 ∷ 9 ∷ 6 ∷ 4 ∷ [])
    ∷ result (9 ∷ 4 ∷ []) (1 ∷ 10 ∷ 6 ∷ 11 ∷ []) ∷ result (1 ∷ 6 ∷ []) (1 ∷ 10 ∷ 6 ∷ 11 ∷ []) ∷ [])
unfolding least_width addresses
masked_leaves_runs =
    run_by text.masked_leaves refl ((own "clock", 0) ∷ (port "r" "clk", 0) ∷ (port "w" "clk", 0) ∷ []) (1 ∷ 2 ∷ 3 ∷ 4 ∷ []) masked_ticks
    (masked_numbers 1 1 0 9 8 2 4 ∷ masked_numbers 0 0 1 7 6 1 3 ∷ masked_numbers 1 0 0 5 5 9 4 ∷ masked_numbers 1 1 1 10 11 9 4
    ∷ masked_numbers 0 1 1 0 0 1 6 ∷ []) refl

-- a memory of two words with a writer p, a port x that reads and writes, and a writer q, declared in this order. All have one address; p writes 1, x writes 2
-- and q writes 3. The inputs are the address, and which of them write
abbrev ports_ticks : List Tick
ports_ticks =
    tick (0 ∷ []) (0 ∷ 1 ∷ 1 ∷ 1 ∷ []) ∷ tick (0 ∷ []) (1 ∷ 1 ∷ 1 ∷ 0 ∷ []) ∷ tick (0 ∷ []) (0 ∷ 1 ∷ 0 ∷ 0 ∷ [])
    ∷ tick (0 ∷ []) (0 ∷ 0 ∷ 1 ∷ 1 ∷ []) ∷ tick (0 ∷ []) (0 ∷ 0 ∷ 1 ∷ 0 ∷ []) ∷ tick [] (0 ∷ 0 ∷ 0 ∷ 0 ∷ []) ∷ []

abbrev ports_numbers : ℕ → ℕ → ℕ → ℕ → ℕ → List (LeafPath × ℕ)
ports_numbers a i j k o =
    (own "a", a) ∷ (own "i", i) ∷ (own "j", j) ∷ (own "k", k) ∷ (own "o", o)
    ∷ (port "p" "addr", a) ∷ (port "p" "en", i) ∷ (port "p" "data", 1) ∷ (port "p" "mask", 1)
    ∷ (port "x" "addr", a) ∷ (port "x" "en", 1) ∷ (port "x" "rdata", o) ∷ (port "x" "wmode", j) ∷ (port "x" "wdata", 2) ∷ (port "x" "wmask", 1)
    ∷ (port "q" "addr", a) ∷ (port "q" "en", k) ∷ (port "q" "data", 3) ∷ (port "q" "mask", 1) ∷ []

-- The later port of the text wins, of whatever kinds the two are: q of all three, x before which p is declared, and q behind x. While x writes it reads zero.
later_port_wins_runs : Runs text.later_port_wins (8 ∷ 9 ∷ []) ports_ticks
    (result (0 ∷ []) (3 ∷ 9 ∷ []) ∷ result (0 ∷ []) (3 ∷ 2 ∷ []) ∷ result (3 ∷ []) (1 ∷ 2 ∷ [])
    ∷ result (0 ∷ []) (3 ∷ 2 ∷ []) ∷ result (0 ∷ []) (2 ∷ 2 ∷ []) ∷ result (2 ∷ []) (2 ∷ 2 ∷ []) ∷ [])
unfolding least_width addresses
later_port_wins_runs =
    run_by text.later_port_wins refl ((own "clock", 0) ∷ (port "p" "clk", 0) ∷ (port "x" "clk", 0) ∷ (port "q" "clk", 0) ∷ []) (8 ∷ 9 ∷ []) ports_ticks
    (ports_numbers 0 1 1 1 0 ∷ ports_numbers 1 1 1 0 0 ∷ ports_numbers 0 1 0 0 3 ∷ ports_numbers 0 0 1 1 0 ∷ ports_numbers 0 0 1 0 0
    ∷ ports_numbers 0 0 0 0 2 ∷ []) refl
