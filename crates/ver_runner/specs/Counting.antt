-- How many rounds settle each tick of a run, where the processes take their steps in rounds of one list.
-- The nets begin a tick with what the tick before left: the inputs take its values; rounds are taken until each process shows the value of its right side; and
-- behind the edge the registers without an asynchronous block show their new words.
use Rattle.std.specs.Prelude.{◌≡◌, ◌≤◌, ℕ, max, List, [], ◌∷◌}
use Rattle.fir_base.specs.Ticks.{Env, Tick, TickResult}
use Rattle.ver_ast.specs.declared.tree.Verilog.{Verilog}
use Rattle.ver_ast.specs.Nets.{variables}
use Rattle.ver_ast.specs.Stores.{store_of}
use Rattle.ver_order.specs.Rounds.{process_count, repeated_steps, SettlesFirstAfter}
use Rattle.ver_order.specs.ShownWords.{words_shown}
use Rattle.ver_sim.specs.Inputs.{HaveInputs}

-- one tick from a state, from the values that the nets had: the least number of rounds that settles it, 1 or more, and the values that it leaves where this is the next state
pub record CountsTick (v : Verilog) (round : List ℕ) (state : List ℕ) (tick : Tick) (before : Env) (count : ℕ) (next : List ℕ) (after : Env) : Type 0 where
  pub begun : Env
  pub inputs : HaveInputs v tick.inputs before begun
  pub settles : SettlesFirstAfter v state tick round begun count
  pub few : count ≤ max 1 (process_count v)
  pub leaves : (name : List ℕ) → after name ≡ words_shown v (store_of (variables v) next) (repeated_steps v (store_of (variables v) state) round count begun) name

-- tick for tick the numbers of rounds, and at last the values that the nets have
abbrev pub CountsTicks : Verilog → List ℕ → List ℕ → Env → List Tick → List TickResult → List ℕ → Env → Type 0
CountsTicks v round state before [] [] [] after = (name : List ℕ) → after name ≡ before name
CountsTicks v round state before (tick ∷ ticks) (shown ∷ rest) (count ∷ counts) after =
    (mid : Env) × CountsTick v round state tick before count shown.state mid × CountsTicks v round shown.state mid ticks rest counts after
CountsTicks v round state before _ _ _ after = ⊥
