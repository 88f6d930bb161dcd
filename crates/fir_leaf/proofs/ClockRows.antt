-- Worked runs over leaves, computed from a text: two clocks, of which one goes out through a wire.
use Rattle.std.proofs.Common.{◌≡◌, ℕ, List, [], ◌∷◌, Some, None, arith, refl}
use Rattle.fir_base.specs.Ticks.{Tick, TickResult}
use Rattle.fir_meaning.specs.working.TermValues.{Env}
use Rattle.fir_meaning.specs.working.TermReads.{multiples}
use Rattle.fir_meaning.specs.working.Designs.{elaborated}
use Rattle.fir_meaning.specs.MemoryWords.{addresses}
use Rattle.fir_meaning.specs.working.LeafSettled.{Settled}
use Rattle.fir_meaning.specs.working.LeafAllows.{Run}
use Rattle.fir_leaf.specs.working.ClockRoots.{HasRoot}
use Rattle.fir_leaf.proofs.TextTrees as text
use Rattle.fir_leaf.proofs.RowTrees.{over_leaves}
use Rattle.fir_leaf.proofs.SmallCircuits.{tick}
use Rattle.fir_leaf.proofs.SettledTests.{run_by}
use Rattle.fir_leaf.proofs.RootClocks.{root_is_clock}

-- two registers on two clocks exchange their words at one tick; one clock goes out through a wire, and one output is invalid, so that a register on it keeps
-- its word. The leaves are c, d, e, f, w, r, s and t
abbrev exchange_ticks : List Tick
exchange_ticks = tick (0 ∷ 1 ∷ []) [] ∷ tick (0 ∷ []) [] ∷ tick [] [] ∷ []

abbrev leaves_words : ℕ → ℕ → TickResult
leaves_words r s = record { outputs = []; clocks = Some 1 ∷ None ∷ []; state = r ∷ s ∷ 4 ∷ [] }

abbrev numbers_of_exchange : ℕ → ℕ → List ℕ
numbers_of_exchange r s = 0 ∷ 0 ∷ 0 ∷ 0 ∷ 0 ∷ r ∷ s ∷ 4 ∷ []

exchange_runs : Run (over_leaves text.exchange) (1 ∷ 2 ∷ 4 ∷ []) exchange_ticks (leaves_words 2 1 ∷ leaves_words 1 1 ∷ leaves_words 1 1 ∷ [])
unfolding elaborated multiples addresses
exchange_runs =
    run_by (over_leaves text.exchange) (Some 0 ∷ Some 1 ∷ Some 1 ∷ None ∷ Some 1 ∷ None ∷ None ∷ None ∷ []) (1 ∷ 2 ∷ 4 ∷ []) exchange_ticks
    (numbers_of_exchange 1 2 ∷ numbers_of_exchange 2 1 ∷ numbers_of_exchange 1 1 ∷ []) refl

-- the clock that goes out through a wire has an input as its root
through_wire : HasRoot (over_leaves text.exchange) 2 (Some 1)
unfolding elaborated multiples
through_wire = record {
  walk = 4 ∷ 1 ∷ [];
  final = 1;
  chain = (
    record { live = _; only = refl; gives = refl },
    record { within = omega arith; is_clock = refl },
    (record { live = _; only = refl; gives = refl }, record { within = omega arith; is_clock = refl }, refl),
  );
  ends = refl;
}

-- and the one that is invalid has none
invalid_has_none : HasRoot (over_leaves text.exchange) 3 None
unfolding elaborated multiples
invalid_has_none = record { walk = []; final = 3; chain = refl; ends = (record { live = _; only = refl; gives = refl }, refl) }

-- whatever the state and the tick
clocks_of_exchange : (state : List ℕ) (t : Tick) (env : Env) → Settled (over_leaves text.exchange) state t env
    → (env.clocks 2 ≡ Some 1) × (env.clocks 3 ≡ None)
unfolding elaborated
clocks_of_exchange state t env settled = (
  root_is_clock (over_leaves text.exchange) state t env 2 (Some 1) settled (record { within = omega arith; is_clock = refl }) through_wire,
  root_is_clock (over_leaves text.exchange) state t env 3 None settled (record { within = omega arith; is_clock = refl }) invalid_has_none,
)
