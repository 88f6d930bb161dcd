-- Where one choice of values is settled in a tree of designs at each tick, there is exactly one run.
use Rattle.std.proofs.Common.{◌≡◌, ℕ, List, [], ◌∷◌, map, refl, sym, ap, ◌∙◌, subst}
use Rattle.fir_base.specs.Ticks.{FitEach, Tick, TickResult}
use Rattle.fir_meaning.specs.LeafPaths.{LeafPath}
use Rattle.fir_meaning.specs.SourceAllows.{next}
use Rattle.fir_meaning.specs.SourceCircuits.{clock_outputs, outputs, source_shape}
use Rattle.fir_meaning.specs.SourceDesigns.{SourceDesign}
use Rattle.fir_meaning.specs.SourceOne.{HasOne, One}
use Rattle.fir_design.specs.working.SourceRuns.{AreTicks, HasRun, KeepsShape, OneHasRun, Run}
use Rattle.fir_meaning.specs.SourceValues.{PathEnv}

pub same_env : (e f : PathEnv) → ((x : LeafPath) → e.numbers x ≡ f.numbers x) → ((x : LeafPath) → e.clocks x ≡ f.clocks x) → e ≡ f
same_env e f p q = λ i. record { numbers = λ x. p x i; clocks = λ x. q x i }

-- what a tick shows where these values are settled
abbrev result_of : SourceDesign → List ℕ → Tick → PathEnv → TickResult
result_of t state tick env =
    record { outputs = map env.numbers (outputs t); clocks = map env.clocks (clock_outputs t); state = next t state tick.clocks env }

module _ (t : SourceDesign) (one : One t) (keeps : KeepsShape t) where
  run_of : (state : List ℕ) (ticks : List Tick) → FitEach (source_shape t).state state → AreTicks t ticks → HasRun t state ticks
  run_of state [] fits are = record { shown = []; run = tt; same = λ others r. none others r }
    where
      none : (others : List TickResult) → Run t state [] others → others ≡ []
      none [] r = refl
      none (o ∷ others) r = absurd r
  run_of state (k ∷ ticks) fits are =
      let o = one state k (record { inputs_fit = are.0.inputs_fit; clocks_rise = are.0.clocks_rise; state_fits = fits }) in
      let rest = run_of (next t state k.clocks o.env) ticks (keeps state k o.env o.settled) are.1 in
      record {
        shown = result_of t state k o.env ∷ rest.shown;
        run = ((o.env, o.settled, refl, refl, refl), rest.run);
        same = λ others r. same others o rest r;
      }
    where
      same : (others : List TickResult) (o : HasOne t state k) (rest : HasRun t (next t state k.clocks o.env) ticks)
          → Run t state (k ∷ ticks) others → others ≡ result_of t state k o.env ∷ rest.shown
      same [] o rest r = absurd r
      same (s ∷ others) o rest r =
          let e : r.0.0 ≡ o.env = same_env r.0.0 o.env (o.same r.0.0 o.env r.0.1 o.settled) (o.same_clocks r.0.0 o.env r.0.1 o.settled) in
          let shown : s.outputs ≡ map o.env.numbers (outputs t) = sym r.0.2 ∙ ap (λ (v : PathEnv). map v.numbers (outputs t)) e in
          let clocks : s.clocks ≡ map o.env.clocks (clock_outputs t) = sym r.0.3 ∙ ap (λ (v : PathEnv). map v.clocks (clock_outputs t)) e in
          let after : s.state ≡ next t state k.clocks o.env = sym r.0.4 ∙ ap (next t state k.clocks) e in
          let here : s ≡ result_of t state k o.env = λ i. record { outputs = shown i; clocks = clocks i; state = after i } in
          let there = rest.same others (subst (λ u. Run t u ticks others) after r.1) in
          rw (here, there) refl

pub one_has_run : OneHasRun
one_has_run c d t state ticks are one keeps fits ticks_are = run_of t one keeps state ticks fits ticks_are
