-- The state after a tick (FIRRTL spec, "Registers", "Memories").
-- A register with an asynchronous reset at 1 takes its init. Else, at an edge of its clock, it takes its init where a synchronous reset is 1, else what the
-- statements store, else what it shows. Else it keeps its state. A pipe and the arrays follow their clocks, and all of one tick follow from what was before.
use Rattle.std.specs.Prelude.{ℕ, List, ◌++◌, map, Bool, not, ◌&&◌, if◌then◌else◌, Option, Some, None, unwrap_or}
use Rattle.fir_base.specs.Ticks.{Tick}
use Rattle.fir_meaning.specs.working.TermValues.{Env, clock_of, is_true}
use Rattle.fir_meaning.specs.working.LeafModules.{LeafReset, Role, pipe, register}
use Rattle.fir_meaning.specs.working.LeafCircuits.{LeafCircuit, role_of, type_of_leaf}
use Rattle.fir_meaning.specs.working.LeafStates.{look}
use Rattle.fir_meaning.specs.working.Memories.{arrays_next, piped}
use Rattle.fir_meaning.specs.ClockEdges.{has_edge}
use Rattle.fir_meaning.specs.working.LeafSettled.{number_given, number_stored}

-- what the statements store, else what the register shows
abbrev pub stored_or_shown : LeafCircuit → Env → ℕ → ℕ
stored_or_shown c env x = unwrap_or (number_stored c env x) (env.numbers x)

-- what a register takes at an edge
abbrev pub taken_at_edge : LeafCircuit → Env → ℕ → Option LeafReset → ℕ
taken_at_edge c env x None = stored_or_shown c env x
taken_at_edge c env x (Some r) =
    if not r.is_async && is_true (type_of_leaf c) env.numbers r.condition then number_given c env x r.init else stored_or_shown c env x

-- what follows its word, where its clock has an edge or has none
abbrev pub register_next : LeafCircuit → Env → ℕ → Option LeafReset → Bool → ℕ → ℕ
register_next c env x None edge word = if edge then taken_at_edge c env x None else word
register_next c env x (Some r) edge word =
    if r.is_async && is_true (type_of_leaf c) env.numbers r.condition
    then number_given c env x r.init
    else if edge
    then taken_at_edge c env x (Some r)
    else word

abbrev pub word_next : LeafCircuit → List ℕ → List ℕ → Env → ℕ → Role → ℕ
word_next c state named env x (register clock reset) =
    register_next c env x reset (has_edge named (clock_of (type_of_leaf c) env clock)) (look c.words state x)
word_next c state named env x (pipe r clock under) =
    if has_edge named (env.clocks clock) then piped c state named env r under else look c.words state x
word_next c state named env x _ = look c.words state x

abbrev pub words_next : LeafCircuit → List ℕ → List ℕ → Env → List ℕ
words_next c state named env = map (λ x. word_next c state named env x (role_of c x)) c.words

abbrev pub next : LeafCircuit → List ℕ → Tick → Env → List ℕ
next c state tick env = words_next c state tick.clocks env ++ arrays_next c state tick.clocks env
