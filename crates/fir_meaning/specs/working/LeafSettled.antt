-- The values of the leaves while nothing changes (FIRRTL spec, "Nodes", "Registers", "Connects", "Memories").
-- The values are guessed whole and then tested: each leaf has what it shows, by its role. A register shows its word of the state, or its init while an
-- asynchronous reset is 1. What is no leaf has the number 0 and no clock, so that settled values are one thing.
use Rattle.std.specs.Prelude.{◌≡◌, ℕ, ◌^◌, ◌<◌, ◌≤◌, List, [], length, ◌&&◌, if◌then◌else◌, Option, Some, None}
use Rattle.fir_base.specs.Ticks.{Tick, HasShape}
use Rattle.fir_meaning.specs.Values.{fit}
use Rattle.fir_meaning.specs.working.Terms.{Term}
use Rattle.fir_meaning.specs.working.TermValues.{Env, clock_of, eval, is_true}
use Rattle.fir_meaning.specs.working.LeafBlocks.{exec_all, nothing_stored}
use Rattle.fir_meaning.specs.working.LeafModules.{LeafReset, Role, computed, leaf_at, pipe, reading, register, sink, source}
use Rattle.fir_meaning.specs.LeafTypes.{LeafType, a_clock, number}
use Rattle.fir_meaning.specs.working.LeafCircuits.{LeafCircuit, depth_of, role_of, type_of_leaf}
use Rattle.fir_meaning.specs.working.LeafStates.{look, place_in, shape}
use Rattle.fir_meaning.specs.working.Memories.{read_before}

-- what a term gives to a leaf
abbrev pub number_given : LeafCircuit → Env → ℕ → Term → ℕ
number_given c env x t = fit (eval (type_of_leaf c) env.numbers t) (type_of_leaf c x)

abbrev pub clock_given : LeafCircuit → Env → ℕ → Term → Option ℕ
clock_given c env x t = clock_of (type_of_leaf c) env t

-- the number and the clock that the statements leave at a leaf
abbrev pub number_stored : LeafCircuit → Env → ℕ → Option ℕ
number_stored c env x = exec_all (type_of_leaf c) (depth_of c) env.numbers (number_given c env) c.body [] nothing_stored x

abbrev pub clock_stored : LeafCircuit → Env → ℕ → Option (Option ℕ)
clock_stored c env x = exec_all (type_of_leaf c) (depth_of c) env.numbers (clock_given c env) c.body [] nothing_stored x

-- a register's word of the state, or its init
abbrev pub register_shown : LeafCircuit → Env → ℕ → Option LeafReset → ℕ → ℕ
register_shown c env x None word = word
register_shown c env x (Some r) word =
    if r.is_async && is_true (type_of_leaf c) env.numbers r.condition then number_given c env x r.init else word

abbrev pub number_shown : LeafCircuit → List ℕ → List ℕ → Env → ℕ → Role → Option ℕ
number_shown c state inputs env x source = Some (look c.inputs inputs x)
number_shown c state inputs env x sink = number_stored c env x
number_shown c state inputs env x (computed t) = Some (eval (type_of_leaf c) env.numbers t).value.number
number_shown c state inputs env x (register clock reset) = Some (register_shown c env x reset (look c.words state x))
number_shown c state inputs env x (reading r) = Some (read_before c state env r)
number_shown c state inputs env x (pipe r clock under) = Some (look c.words state x)

-- a clock input has its number, counted from 0 in the order of the ports
abbrev pub clock_shown : LeafCircuit → Env → ℕ → Role → Option (Option ℕ)
clock_shown c env x source = Some (place_in c.clock_inputs 0 x)
clock_shown c env x sink = clock_stored c env x
clock_shown c env x (computed t) = Some (clock_of (type_of_leaf c) env t)
clock_shown c env x _ = Some None

abbrev pub ShowsNumber : LeafCircuit → List ℕ → List ℕ → Env → ℕ → Type 0
ShowsNumber c state inputs env x = number_shown c state inputs env x (role_of c x) ≡ Some (env.numbers x)

abbrev pub ShowsClock : LeafCircuit → Env → ℕ → Type 0
ShowsClock c env x = clock_shown c env x (role_of c x) ≡ Some (env.clocks x)

-- by what the leaf holds
abbrev pub Shows : LeafCircuit → List ℕ → List ℕ → Env → ℕ → LeafType → Type 0
Shows c state inputs env x (number t) = ShowsNumber c state inputs env x × (env.numbers x < 2 ^ t.width) × (env.clocks x ≡ None)
Shows c state inputs env x a_clock = ShowsClock c env x × (env.numbers x ≡ 0)

pub record Settled (c : LeafCircuit) (state : List ℕ) (tick : Tick) (env : Env) : Type 0 where
  -- the state and the tick have the circuit's shape
  pub shaped : HasShape (shape c) state tick
  pub each : (x : ℕ) → x < length c.leaves → Shows c state tick.inputs env x (leaf_at c.leaves x).holds
  pub no_more_numbers : (x : ℕ) → length c.leaves ≤ x → env.numbers x ≡ 0
  pub no_more_clocks : (x : ℕ) → length c.leaves ≤ x → env.clocks x ≡ None
