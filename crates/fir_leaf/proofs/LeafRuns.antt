-- Where one choice of values is settled at each tick, there is exactly one run.
use Rattle.std.proofs.Common.{◌≡◌, ℕ, List, [], ◌∷◌, map, refl, sym, ap, ◌∙◌, subst}
use Rattle.fir_base.specs.Ticks.{FitEach, Tick, TickResult}
use Rattle.fir_meaning.specs.working.TermValues.{Env}
use Rattle.fir_meaning.specs.working.LeafCircuits.{LeafCircuit}
use Rattle.fir_meaning.specs.working.LeafStates.{shape}
use Rattle.fir_meaning.specs.working.LeafNext.{next}
use Rattle.fir_meaning.specs.working.LeafAllows.{AreTicks, HasOne, HasRun, One, Run}
use Rattle.fir_leaf.specs.working.RunLaws.{KeepsShape, OneHasRun}

pub same_env : (e f : Env) → ((x : ℕ) → e.numbers x ≡ f.numbers x) → ((x : ℕ) → e.clocks x ≡ f.clocks x) → e ≡ f
same_env e f p q = λ i. record { numbers = λ x. p x i; clocks = λ x. q x i }

-- what a tick shows where these values are settled
abbrev result_of : LeafCircuit → List ℕ → Tick → Env → TickResult
result_of c state tick env = record { outputs = map env.numbers c.outputs; clocks = map env.clocks c.clock_outputs; state = next c state tick env }

module _ (c : LeafCircuit) (one : One c) (keeps : KeepsShape c) where
  run_of : (state : List ℕ) (ticks : List Tick) → FitEach (shape c).state state → AreTicks c ticks → HasRun c state ticks
  run_of state [] fits are = record { shown = []; run = tt; same = λ others r. none others r }
    where
      none : (others : List TickResult) → Run c state [] others → others ≡ []
      none [] r = refl
      none (o ∷ others) r = absurd r
  run_of state (t ∷ ticks) fits are =
      let o = one state t (record { inputs_fit = are.0.inputs_fit; clocks_rise = are.0.clocks_rise; state_fits = fits }) in
      let rest = run_of (next c state t o.env) ticks (keeps state t o.env o.settled) are.1 in
      record {
        shown = result_of c state t o.env ∷ rest.shown;
        run = ((o.env, o.settled, refl, refl, refl), rest.run);
        same = λ others r. same others o rest r;
      }
    where
      same : (others : List TickResult) (o : HasOne c state t) (rest : HasRun c (next c state t o.env) ticks) → Run c state (t ∷ ticks) others
          → others ≡ result_of c state t o.env ∷ rest.shown
      same [] o rest r = absurd r
      same (s ∷ others) o rest r =
          let e : r.0.0 ≡ o.env = same_env r.0.0 o.env (o.same r.0.0 o.env r.0.1 o.settled) (o.same_clocks r.0.0 o.env r.0.1 o.settled) in
          let shown : s.outputs ≡ map o.env.numbers c.outputs = sym r.0.2 ∙ ap (λ (v : Env). map v.numbers c.outputs) e in
          let clocks : s.clocks ≡ map o.env.clocks c.clock_outputs = sym r.0.3 ∙ ap (λ (v : Env). map v.clocks c.clock_outputs) e in
          let after : s.state ≡ next c state t o.env = sym r.0.4 ∙ ap (next c state t) e in
          let here : s ≡ result_of c state t o.env = λ i. record { outputs = shown i; clocks = clocks i; state = after i } in
          let there = rest.same others (subst (λ u. Run c u ticks others) after r.1) in
          rw (here, there) refl

pub one_has_run : OneHasRun
one_has_run c one keeps state ticks fits are = run_of c one keeps state ticks fits are
