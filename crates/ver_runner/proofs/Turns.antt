-- Turns of a round, one after the other, until every process shows the value of its right side.
use Rattle.std.proofs.Common.{◌≡◌, ℕ, zero, suc, ◌+◌, ◌<◌, ◌≤◌, List, refl, sym, ap, ◌∙◌, subst, ⊎_elim, arith, add-one}
use Rattle.std.specs.Prelude.{max, Some}
use Rattle.std.proofs.lemmas.Bool.{cases_lt}
use Rattle.fir_base.specs.Ticks.{Env}
use Rattle.fir_base.proofs.Elements.{get_in}
use Rattle.ver_ast.specs.declared.tree.Verilog.{Verilog}
use Rattle.ver_ast.specs.Nets.{variables}
use Rattle.ver_ast.specs.Processes.{processes}
use Rattle.ver_ast.specs.Stores.{Store, store_of}
use Rattle.ver_order.specs.working.Laws.{ShowValues}
use Rattle.ver_order.specs.Rounds.{process_count, repeated_steps}
use Rattle.ver_order.specs.Steps.{steps}
use Rattle.ver_sim.specs.declared.unsettled.NotYet.{NotYet}
use Rattle.ver_sim.specs.working.Tasks.{IsNotYet}
use Rattle.ver_sim.specs.working.Views.{VSimView, shown_env, store}
use Rattle.ver_runner.specs.working.Settling.{after_turns, IsUnshown, NeverShows, ShowsFirstAfter}

-- one turn more is taken last
turn_last : (v : Verilog) (store : Store) (round : List ℕ) (count : ℕ) (env : Env)
    → repeated_steps v store round (suc count) env ≡ steps v store round (repeated_steps v store round count env)
unfolding repeated_steps
turn_last v store round zero env = refl
turn_last v store round (suc count) env = turn_last v store round count (steps v store round env)

pub unshown : (v : Verilog) (state : List ℕ) (env : Env) (n : NotYet) → IsNotYet v (store_of (variables v) state) env n → IsUnshown v state env
unshown v state env n h = record {
  process = h.process;
  there = get_in (processes v) n.process h.process h.there;
  differ = λ e. h.differ (h.is_wanted ∙ e ∙ ap Some (sym h.is_shown));
}

not_all : (v : Verilog) (state : List ℕ) (env : Env) → IsUnshown v state env → ShowValues v state env → ⊥
not_all v state env u shows = u.differ (shows u.process u.there)

-- so many turns were taken, and after each some process did not show the value of its right side
pub record TurnsTaken (v : Verilog) (state round : List ℕ) (before now : Env) (count : ℕ) : Type 0 where
  pub taken : now ≡ after_turns v state round before count
  pub none : (fewer : ℕ) → 1 ≤ fewer → fewer ≤ count → ShowValues v state (after_turns v state round before fewer) → ⊥
  pub last : 1 ≤ count → IsUnshown v state now

module _ (v : Verilog) (state round : List ℕ) (before : Env) where
  pub no_turns : TurnsTaken v state round before before 0
  unfolding repeated_steps
  no_turns = record { taken = refl; none = λ fewer some few. absurd (omega (arith, some, few)); last = λ some. absurd (omega (arith, some)) }

  module _ (now next : Env) (count : ℕ) (h : TurnsTaken v state round before now count) (stepped : next ≡ steps v (store_of (variables v) state) round now) where
    turned : next ≡ after_turns v state round before (count + 1)
    turned =
        rw add-one
        (stepped ∙ ap (steps v (store_of (variables v) state) round) h.taken ∙ sym (turn_last v (store_of (variables v) state) round count before))

    -- the turn settles
    pub settled_now : ShowValues v state next → count < max 1 (process_count v) → ShowsFirstAfter v state round before next (count + 1)
    settled_now shows low = record {
      some = omega arith;
      few = omega arith;
      taken = turned;
      shows = shows;
      least = λ fewer some few. h.none fewer some (omega (arith, few));
    }

    -- or it does not
    pub turn_more : (n : NotYet) → IsNotYet v (store_of (variables v) state) next n → TurnsTaken v state round before next (count + 1)
    turn_more n not_yet = record {
      taken = turned;
      none = λ fewer some few.
          ⊎_elim
          (λ (lt : fewer < count + 1). h.none fewer some (omega (arith, lt)))
          (λ (le : count + 1 ≤ fewer).
          let same : fewer ≡ count + 1 = omega (arith, few, le) in
          subst (λ (k : ℕ). ShowValues v state (after_turns v state round before k) → ⊥) (sym same)
          (subst (λ (e : Env). ShowValues v state e → ⊥) turned (not_all v state next (unshown v state next n not_yet))))
          (cases_lt fewer (count + 1));
      last = λ some. unshown v state next n not_yet;
    }

  -- as many turns as there are processes were taken
  pub never_shown : (now : Env) (count : ℕ) → TurnsTaken v state round before now count → max 1 (process_count v) ≤ count → NeverShows v state round before now
  never_shown now count h enough = record { count = count; enough = omega arith; taken = h.taken; unshown = h.last (omega arith) }

-- the same of what a simulator shows after a turn
module _ (first old new : VSimView) (round : List ℕ) (tree : old.tree ≡ first.tree) (state : old.state ≡ first.state) (tree_stays : new.tree ≡ old.tree)
    (state_stays : new.state ≡ old.state) (stepped : shown_env new ≡ steps old.tree (store old) round (shown_env old)) (count : ℕ)
    (h : TurnsTaken first.tree first.state round (shown_env first) (shown_env old) count) where
  first_stepped : shown_env new ≡ steps first.tree (store_of (variables first.tree) first.state) round (shown_env old)
  first_stepped =
      stepped ∙ ap (λ (s : List ℕ). steps old.tree (store_of (variables old.tree) s) round (shown_env old)) state
      ∙ ap (λ (v : Verilog). steps v (store_of (variables v) first.state) round (shown_env old)) tree

  pub turn_settled : ShowValues new.tree new.state (shown_env new) → count < max 1 (process_count first.tree)
      → ShowsFirstAfter first.tree first.state round (shown_env first) (shown_env new) (count + 1)
  turn_settled shows low =
      settled_now first.tree first.state round (shown_env first) (shown_env old) (shown_env new) count h first_stepped
      (subst (λ (s : List ℕ). ShowValues first.tree s (shown_env new)) (state_stays ∙ state)
      (subst (λ (v : Verilog). ShowValues v new.state (shown_env new)) (tree_stays ∙ tree) shows)) low

  pub turn_taken : (n : NotYet) → IsNotYet new.tree (store new) (shown_env new) n
      → TurnsTaken first.tree first.state round (shown_env first) (shown_env new) (count + 1)
  turn_taken n not_yet =
      turn_more first.tree first.state round (shown_env first) (shown_env old) (shown_env new) count h first_stepped n
      (subst (λ (s : List ℕ). IsNotYet first.tree (store_of (variables first.tree) s) (shown_env new) n) (state_stays ∙ state)
      (subst (λ (v : Verilog). IsNotYet v (store_of (variables v) new.state) (shown_env new) n) (tree_stays ∙ tree) not_yet))
