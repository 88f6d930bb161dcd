-- Rounds that are taken until every process shows the value of its right side settle a tick, and else leave all at rest.
use Rattle.std.proofs.Common.{◌≡◌, ℕ, zero, suc, List, [], ◌++◌, refl, sym, ◌∙◌, subst}
use Rattle.std.specs.Prelude.{Option, Some, None, IfSome, IfNone}
use Rattle.fir_base.specs.Ticks.{Env, Tick}
use Rattle.ver_ast.specs.declared.tree.Verilog.{Verilog}
use Rattle.ver_ast.specs.Nets.{variables}
use Rattle.ver_ast.specs.Settled.{SourcesShown, Rest, VSettled}
use Rattle.ver_ast.specs.Stores.{Store, store_of}
use Rattle.ver_ast.specs.Valid.{Valid}
use Rattle.ver_order.specs.working.Rounds.{IsRound, HasRounds}
use Rattle.ver_order.specs.Rounds.{process_count, repeated_steps, SettlesFirstAfter}
use Rattle.ver_order.specs.Steps.{steps}
use Rattle.ver_order.proofs.LeastTurns.{sources_stay_repeated}
use Rattle.ver_order.proofs.Rounds.{settles}
use Rattle.ver_order.proofs.Shown.{settled_where_one_is, shown_settled}
use Rattle.ver_order.proofs.StepsAtRest.{steps_append}
use Rattle.ver_sim.proofs.Ticking.{allowed}
use Rattle.ver_sim.specs.Lacking.{first_from, item_lacks}
use Rattle.ver_runner.specs.working.Settling.{after_turns, IsUnshown, NeverShows, ShowsFirstAfter}

-- turns of a round are steps of a list that has so many rounds
record AsSteps (v : Verilog) (store : Store) (round : List ℕ) (count : ℕ) (env : Env) : Type 0 where
  list : List ℕ
  same : repeated_steps v store round count env ≡ steps v store list env
  rounds : HasRounds (process_count v) count list

as_steps : (v : Verilog) (store : Store) (round : List ℕ) → IsRound (process_count v) round → (count : ℕ) (env : Env) → AsSteps v store round count env
unfolding repeated_steps steps
as_steps v store round r zero env = record { list = []; same = refl; rounds = tt }
as_steps v store round r (suc count) env =
    let rest = as_steps v store round r count (steps v store round env) in
    record { list = round ++ rest.list; same = rest.same ∙ sym (steps_append v store round rest.list env); rounds = (round, rest.list, refl, r, rest.rounds) }

module _ (v : Verilog) (valid : Valid v) (state : List ℕ) (tick : Tick) (before : Env) (b : SourcesShown v state tick before) (round : List ℕ) where
  sources_after : (count : ℕ) → SourcesShown v state tick (after_turns v state round before count)
  sources_after = sources_stay_repeated v valid state tick before b round

  module _ (after : Env) (count : ℕ) (h : ShowsFirstAfter v state round before after count) where
    settled_after : VSettled v state tick after
    settled_after = (shown_settled v valid state tick after (subst (SourcesShown v state tick) (sym h.taken) (sources_after count))).0 h.shows

    pub settles_first : SettlesFirstAfter v state tick round before count
    settles_first = record {
      some = h.some;
      settled = subst (VSettled v state tick) h.taken settled_after;
      least = λ fewer some few s. h.least fewer some few ((shown_settled v valid state tick (after_turns v state round before fewer) (sources_after fewer)).1 s);
    }

  rest_never : (after : Env) → IsRound (process_count v) round → NeverShows v state round before after → Rest v state tick after
  rest_never after r h =
      let all = as_steps v (store_of (variables v) state) round r h.count before in
      subst (Rest v state tick) (sym (h.taken ∙ all.same)) (settles v valid state tick before b h.count h.enough all.list all.rounds)

  -- in both cases all is at rest
  pub at_rest : (after : Env) (o : Option ℕ) → IsRound (process_count v) round → IfSome o (ShowsFirstAfter v state round before after)
      → IfNone o (NeverShows v state round before after) → Rest v state tick after
  at_rest after None r some none = rest_never after r none
  at_rest after (Some count) r some none = (settled_after after count some).rest

-- at rest an item lacks a value, or every process shows that of its right side
pub all_show : (v : Verilog) → Valid v → (state : List ℕ) (tick : Tick) (env : Env) → Rest v state tick env
    → first_from (item_lacks v (store_of (variables v) state) tick.clocks env) 0 v.items ≡ None → IsUnshown v state env → ⊥
all_show v valid state tick env rest none u =
    let some = allowed v valid state tick env rest none in
    let settled = settled_where_one_is v valid state tick some.0 env some.1 rest in
    u.differ ((shown_settled v valid state tick env rest.begins).1 settled u.process u.there)
