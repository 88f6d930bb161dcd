-- Where each state and tick of a shape allow something, and only states of the shape, there is a run through all ticks. Where they allow one thing alone, there is
-- one run alone.
use Rattle.std.proofs.Common.{◌≡◌, ℕ, List, [], ◌∷◌, Option, refl, subst}
use Rattle.std.specs.List.{AllByRecursion}
use Rattle.fir_base.specs.Ticks.{Tick, TickResult, Shape, FitEach, HasShape, Allowance, IsRun}
use Rattle.fir_outcome.specs.Runs.{IsTick, HasOneRun, RunsOnce}

-- what one allows the other allows too
abbrev pub Includes : Allowance → Allowance → Type 0
Includes p q =
    (state : List ℕ) (tick : Tick) (shown : List ℕ) (clocks : List (Option ℕ)) (after : List ℕ) → p state tick shown clocks after
    → q state tick shown clocks after

pub same_runs : (p q : Allowance) → Includes p q → (state : List ℕ) (ticks : List Tick) (shown : List TickResult) → IsRun p state ticks shown
    → IsRun q state ticks shown
same_runs p q h state [] [] r = tt
same_runs p q h state [] (s ∷ shown) r = absurd r
same_runs p q h state (t ∷ ticks) [] r = absurd r
same_runs p q h state (t ∷ ticks) (s ∷ shown) r = (h state t s.outputs s.clocks s.state r.0, same_runs p q h s.state ticks shown r.1)

-- what a state and a tick allow
abbrev pub Allowed : Allowance → List ℕ → Tick → Type 0
Allowed allows state tick = (shown : List ℕ) × (clocks : List (Option ℕ)) × (after : List ℕ) × allows state tick shown clocks after

abbrev pub AllowsSome : Shape → Allowance → Type 0
AllowsSome shape allows = (state : List ℕ) (tick : Tick) → HasShape shape state tick → Allowed allows state tick

abbrev pub KeepsShape : Shape → Allowance → Type 0
KeepsShape shape allows =
    (state : List ℕ) (tick : Tick) (shown : List ℕ) (clocks : List (Option ℕ)) (after : List ℕ) → allows state tick shown clocks after
    → FitEach shape.state after

abbrev pub AllowsOne : Allowance → Type 0
AllowsOne allows =
    (state : List ℕ) (tick : Tick) (s t : TickResult) → allows state tick s.outputs s.clocks s.state → allows state tick t.outputs t.clocks t.state
    → t ≡ s

abbrev pub HasRun : Allowance → List ℕ → List Tick → Type 0
HasRun allows state ticks = (shown : List TickResult) × IsRun allows state ticks shown

module _ (allows : Allowance) (one : AllowsOne allows) where
  pub one_run : (state : List ℕ) (ticks : List Tick) (shown others : List TickResult) → IsRun allows state ticks shown → IsRun allows state ticks others
      → others ≡ shown
  one_run state [] [] [] p q = refl
  one_run state [] [] (o ∷ others) p q = absurd q
  one_run state [] (s ∷ shown) others p q = absurd p
  one_run state (t ∷ ticks) [] others p q = absurd p
  one_run state (t ∷ ticks) (s ∷ shown) [] p q = absurd q
  one_run state (t ∷ ticks) (s ∷ shown) (o ∷ others) p q =
      let here : o ≡ s = one state t s o p.0 q.0 in
      let rest : others ≡ shown =
      one_run s.state ticks shown others p.1 (subst (λ (r : TickResult). IsRun allows r.state ticks others) here q.1) in
      cc

module _ (shape : Shape) (allows : Allowance) (some : AllowsSome shape allows) (keeps : KeepsShape shape allows) where
  has_run : (state : List ℕ) (ticks : List Tick) → FitEach shape.state state → AllByRecursion (IsTick shape) ticks → HasRun allows state ticks
  has_run state [] fits are = ([], tt)
  has_run state (t ∷ ticks) fits are =
      let o : Allowed allows state t =
      some state t (record { inputs_fit = are.0.inputs_fit; clocks_rise = are.0.clocks_rise; state_fits = fits }) in
      let rest : HasRun allows o.2 ticks = has_run o.2 ticks (keeps state t o.0 o.1 o.2 o.3) are.1 in
      (record { outputs = o.0; clocks = o.1; state = o.2 } ∷ rest.0, (o.3, rest.1))

  pub runs_once : AllowsOne allows → RunsOnce shape allows
  runs_once one state ticks fits are =
      let r : HasRun allows state ticks = has_run state ticks fits are in
      record { shown = r.0; run = r.1; only = λ others run. one_run allows one state ticks r.0 others r.1 run }

-- where two allow the same runs and have one shape, the second runs once where the first does
pub same_once : (p q : Allowance) (shape other : Shape) → other ≡ shape
    → ((state : List ℕ) (ticks : List Tick) (shown : List TickResult) → IsRun p state ticks shown → IsRun q state ticks shown)
    → ((state : List ℕ) (ticks : List Tick) (shown : List TickResult) → IsRun q state ticks shown → IsRun p state ticks shown)
    → RunsOnce shape p → RunsOnce other q
same_once p q shape other same forth back once state ticks fits are =
    let one : HasOneRun p state ticks =
    once state ticks (subst (λ (s : Shape). FitEach s.state state) same fits) (subst (λ (s : Shape). AllByRecursion (IsTick s) ticks) same are) in
    record { shown = one.shown; run = forth state ticks one.shown one.run; only = λ others run. one.only others (back state ticks others run) }
