-- A run through the first ticks begins each run through all of them, and so do its lines.
use Rattle.std.proofs.Common.{◌≡◌, ◌≢◌, ℕ, List, [], ◌∷◌, ◌++◌, Bool, refl, sym, ap, ◌∙◌, subst}
use Rattle.std.proofs.lemmas.List.{append_assoc}
use Rattle.fir_base.specs.Ticks.{Tick, TickResult, Allowance, IsRun}
use Rattle.trace_text.specs.RunLines.{shown_text, run_text}
use Rattle.trace_text.specs.working.Fronts.{IsFrontOf, IsFirstOf, AllowsOne, IsOnlyRun, OneResultOneRun, FirstLinesBegin, FrontLinesBegin}
use Rattle.trace_text.proofs.TraceFronts.{front_spells_first}

-- the lines of joined results
module _ (outputs state : List ℕ) (with_state : Bool) where
  pub run_text-append : (shown more : List TickResult)
      → run_text outputs state with_state (shown ++ more) ≡ run_text outputs state with_state shown ++ run_text outputs state with_state more
  unfolding run_text
  run_text-append [] more = refl
  run_text-append (s ∷ shown) more =
      ap (λ rest. shown_text outputs state with_state s ++ rest) (run_text-append shown more)
      ∙ sym (append_assoc (shown_text outputs state with_state s) (run_text outputs state with_state shown) (run_text outputs state with_state more))

  text_begins : (shown all : List TickResult) → IsFrontOf shown all
      → IsFrontOf (run_text outputs state with_state shown) (run_text outputs state with_state all)
  text_begins shown all b =
      record { back = run_text outputs state with_state b.back; parts = ap (run_text outputs state with_state) b.parts ∙ run_text-append shown b.back }

module _ (allows : Allowance) where
  -- what a run shows at the first ticks
  record Part (init : List ℕ) (ticks : List Tick) (all : List TickResult) : Type 0 where
    front : List TickResult
    run : IsRun allows init ticks front
    begins : IsFrontOf front all

  part : (init : List ℕ) (ticks more : List Tick) (all : List TickResult) → IsRun allows init (ticks ++ more) all → Part init ticks all
  part init [] more all run = record { front = []; run = tt; begins = record { back = all; parts = refl } }
  part init (t ∷ ticks) more [] run = absurd run
  part init (t ∷ ticks) more (s ∷ all) run =
      let p = part s.state ticks more all run.1 in
      record { front = s ∷ p.front; run = (run.0, p.run); begins = record { back = p.begins.back; parts = ap (λ rest. s ∷ rest) p.begins.parts } }

  run_begins : (init : List ℕ) (ticks whole : List Tick) (shown all : List TickResult) → IsFrontOf ticks whole → IsOnlyRun allows init ticks shown
      → IsRun allows init whole all → IsFrontOf shown all
  run_begins init ticks whole shown all b one run =
      let p = part init ticks b.back all (subst (λ ts. IsRun allows init ts all) b.parts run) in
      subst (λ front. IsFrontOf front all) (one.only p.front p.run) p.begins

  pub first_lines_begin : FirstLinesBegin allows
  first_lines_begin outputs state with_state init ticks whole shown all b one run =
      text_begins outputs state with_state shown all (run_begins init ticks whole shown all b one run)

  module _ (one : AllowsOne allows) where
    one_run : (init : List ℕ) (ticks : List Tick) (shown others : List TickResult) → IsRun allows init ticks shown → IsRun allows init ticks others
        → others ≡ shown
    one_run init [] [] [] r q = refl
    one_run init [] [] (o ∷ others) r q = absurd q
    one_run init [] (s ∷ shown) others r q = absurd r
    one_run init (t ∷ ticks) [] others r q = absurd r
    one_run init (t ∷ ticks) (s ∷ shown) [] r q = absurd q
    one_run init (t ∷ ticks) (s ∷ shown) (o ∷ others) r q =
        let here : o ≡ s = one init t s o r.0 q.0 in
        let rest : others ≡ shown = one_run s.state ticks shown others r.1 (subst (λ (x : TickResult). IsRun allows x.state ticks others) here q.1) in
        cc

  pub one_result_one_run : OneResultOneRun allows
  one_result_one_run one init ticks shown run = record { run = run; only = λ others other. one_run one init ticks shown others run other }

  module _ (outputs state : List ℕ) (with_state : Bool) where
    -- no tick has no line
    first_of : (init whole_init : List ℕ) (ticks whole : List Tick) (shown all : List TickResult) → IsFirstOf init ticks whole_init whole
        → IsOnlyRun allows init ticks shown → IsRun allows whole_init whole all
        → IsFrontOf (run_text outputs state with_state shown) (run_text outputs state with_state all)
    unfolding run_text
    first_of init whole_init [] whole [] all f one run = record { back = run_text outputs state with_state all; parts = refl }
    first_of init whole_init [] whole (s ∷ shown) all f one run = absurd one.run
    first_of init whole_init (t ∷ ticks) whole shown all f one run =
        let filled : t ∷ ticks ≢ [] = λ (e : t ∷ ticks ≡ []). cc in
        first_lines_begin outputs state with_state init (t ∷ ticks) whole shown all f.front one
        (subst (λ i. IsRun allows i whole all) (sym (f.same_init filled)) run)

  pub front_lines_begin : FrontLinesBegin allows
  front_lines_begin outputs state with_state bytes shape lines init whole_init ticks whole shown all h s one says run =
      first_of outputs state with_state init whole_init ticks whole shown all
      (front_spells_first bytes shape lines init whole_init ticks whole h s says) one run
