-- A run and its lines grow tick by tick.
use Rattle.std.proofs.Common.{◌≡◌, ℕ, List, [], ◌∷◌, ◌++◌, Bool, refl, sym, ap, ◌∙◌}
use Rattle.std.proofs.lemmas.List.{append-nil, append_assoc}
use Rattle.fir_base.specs.Ticks.{Tick, TickResult, Allowance, IsRun}
use Rattle.trace_text.specs.RunLines.{shown_text, run_text}
use Rattle.trace_lines.specs.Runs.{last_state}

module _ (allows : Allowance) (tick : Tick) (last : TickResult) where
  pub run_more : (init : List ℕ) (ticks : List Tick) (shown : List TickResult) → IsRun allows init ticks shown → allows (last_state init shown) tick last.outputs last.clocks last.state → IsRun allows init (ticks ++ tick ∷ []) (shown ++ last ∷ [])
  unfolding last_state
  run_more init [] [] run here = (here, tt)
  run_more init [] (s ∷ shown) run here = absurd run
  run_more init (t ∷ ticks) [] run here = absurd run
  run_more init (t ∷ ticks) (s ∷ shown) run here = (run.0, run_more s.state ticks shown run.1 here)

pub last_of : (init : List ℕ) (shown : List TickResult) (last : TickResult) → last_state init (shown ++ last ∷ []) ≡ last.state
unfolding last_state
last_of init [] last = refl
last_of init (s ∷ shown) last = last_of s.state shown last

module _ (outputs state : List ℕ) (with_state : Bool) where
  pub text_more : (shown : List TickResult) (last : TickResult) → run_text outputs state with_state (shown ++ last ∷ []) ≡ run_text outputs state with_state shown ++ shown_text outputs state with_state last
  unfolding run_text
  text_more [] last = append-nil (shown_text outputs state with_state last)
  text_more (s ∷ shown) last =
      ap (λ rest. shown_text outputs state with_state s ++ rest) (text_more shown last)
      ∙ sym (append_assoc (shown_text outputs state with_state s) (run_text outputs state with_state shown) (shown_text outputs state with_state last))
