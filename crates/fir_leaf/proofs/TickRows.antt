-- Worked runs over leaves, computed from texts: a register with a reset of either kind.
-- A run is computed from the numbers of all leaves at each tick, and from their clocks.
use Rattle.std.proofs.Common.{ℕ, List, [], ◌∷◌, Option, Some, None, refl}
use Rattle.fir_base.specs.Ticks.{Tick}
use Rattle.fir_meaning.specs.working.TermReads.{multiples}
use Rattle.fir_meaning.specs.working.Designs.{elaborated}
use Rattle.fir_meaning.specs.MemoryWords.{addresses}
use Rattle.fir_meaning.specs.working.LeafAllows.{Run}
use Rattle.fir_leaf.proofs.TextTrees as text
use Rattle.fir_leaf.proofs.RowTrees.{over_leaves}
use Rattle.fir_leaf.proofs.SmallCircuits.{shows, tick}
use Rattle.fir_leaf.proofs.SettledTests.{run_by}

-- a register that counts, with a reset, and what it shows; the leaves are clock, reset, o and r
abbrev clocks_of_counting : List (Option ℕ)
clocks_of_counting = Some 0 ∷ None ∷ None ∷ None ∷ []

-- a synchronous reset waits for an edge, and wins over the connect
abbrev counter_ticks : List Tick
counter_ticks = tick (0 ∷ []) (0 ∷ []) ∷ tick (0 ∷ []) (0 ∷ []) ∷ tick [] (1 ∷ []) ∷ tick (0 ∷ []) (1 ∷ []) ∷ tick (0 ∷ []) (0 ∷ []) ∷ []

counter_runs : Run (over_leaves text.counter) (15 ∷ []) counter_ticks
    (shows (15 ∷ []) (0 ∷ []) ∷ shows (0 ∷ []) (1 ∷ []) ∷ shows (1 ∷ []) (1 ∷ []) ∷ shows (1 ∷ []) (0 ∷ []) ∷ shows (0 ∷ []) (1 ∷ []) ∷ [])
unfolding elaborated multiples addresses
counter_runs =
    run_by (over_leaves text.counter) clocks_of_counting (15 ∷ []) counter_ticks
    ((0 ∷ 0 ∷ 15 ∷ 15 ∷ []) ∷ (0 ∷ 0 ∷ 0 ∷ 0 ∷ []) ∷ (0 ∷ 1 ∷ 1 ∷ 1 ∷ []) ∷ (0 ∷ 1 ∷ 1 ∷ 1 ∷ []) ∷ (0 ∷ 0 ∷ 0 ∷ 0 ∷ []) ∷ []) refl

-- an asynchronous reset shows the init at once, and needs no edge
abbrev async_counter_ticks : List Tick
async_counter_ticks = tick [] (1 ∷ []) ∷ tick [] (0 ∷ []) ∷ tick (0 ∷ []) (0 ∷ []) ∷ tick [] (0 ∷ []) ∷ tick (0 ∷ []) (1 ∷ []) ∷ []

async_counter_runs : Run (over_leaves text.async_counter) (3 ∷ []) async_counter_ticks
    (shows (9 ∷ []) (9 ∷ []) ∷ shows (9 ∷ []) (9 ∷ []) ∷ shows (9 ∷ []) (10 ∷ []) ∷ shows (10 ∷ []) (10 ∷ []) ∷ shows (9 ∷ []) (9 ∷ []) ∷ [])
unfolding elaborated multiples addresses
async_counter_runs =
    run_by (over_leaves text.async_counter) clocks_of_counting (3 ∷ []) async_counter_ticks
    ((0 ∷ 1 ∷ 9 ∷ 9 ∷ []) ∷ (0 ∷ 0 ∷ 9 ∷ 9 ∷ []) ∷ (0 ∷ 0 ∷ 9 ∷ 9 ∷ []) ∷ (0 ∷ 0 ∷ 10 ∷ 10 ∷ []) ∷ (0 ∷ 1 ∷ 9 ∷ 9 ∷ []) ∷ []) refl
