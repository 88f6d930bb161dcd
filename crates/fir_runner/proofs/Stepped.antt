-- What a step of a simulation makes of what was there before it.
use Rattle.std.proofs.Common.{◌≡◌, ℕ, List, [], ◌∷◌, ◌++◌, Bool, if◌then◌else◌, Option, Some, None, sym, ap, ◌∙◌, subst}
use Rattle.fir_base.specs.Ticks.{Tick, TickResult, IsRun}
use Rattle.fir_bits.specs.Values.{BitVector}
use Rattle.fir_net.specs.declared.net.FlatNet.{FlatNet}
use Rattle.fir_net.specs.working.Settled.{shape}
use Rattle.fir_net.specs.working.Allows.{Allows}
use Rattle.trace_text.specs.Shapes.{TraceShape}
use Rattle.trace_text.specs.TraceSpells.{TraceSpells}
use Rattle.trace_text.specs.BadLine.{BadLine}
use Rattle.trace_text.specs.declared.fault.TraceFault.{TraceFault}
use Rattle.trace_text.specs.OutputLines.{line_text}
use Rattle.trace_text.specs.RunLines.{with_widths, shown_text, run_text}
use Rattle.trace_text.specs.working.Readings.{TickRead, NoTick, TickIsBad}
use Rattle.trace_text.specs.working.Steps.{IsReadTo, ReadsInSteps}
use Rattle.trace_lines.proofs.Growing.{run_more, last_of, text_more}
use Rattle.fir_tick.specs.working.Views.{numbers, widths, output_widths}
use Rattle.fir_runner.specs.declared.runner.Runner.{Runner}
use Rattle.fir_runner.specs.working.Running.{SimulatedNet, simulated_by, Ran, IsRunning}
use Rattle.fir_runner.proofs.RunLines.{shows, at_widths}

-- the net, the shape and what is shown stay
pub record Stays (old new : Runner) : Type 0 where
  pub net : new.sim.net ≡ old.sim.net
  pub shape_stays : new.shape ≡ old.shape
  pub as_shown : new.with_state ≡ old.with_state

module _ (trace : List ℕ) (old : Runner) (printed : List ℕ) (steps : ReadsInSteps trace old.shape) (h : IsRunning trace old printed) where
  -- no tick is left
  pub whole_ran : (to : ℕ) → NoTick trace old.at to → Ran (simulated_by old) (TraceSpells trace) printed
  whole_ran to none = record {
    init = h.init;
    ticks = h.ticks;
    said = steps.ends h.init h.ticks old.at to h.read none;
    shown = h.shown;
    run = h.run;
    lines = h.lines;
  }

  -- a line is bad
  pub bad_ran : (to : ℕ) (fault : TraceFault) → TickIsBad trace old.shape old.at to fault → Ran (simulated_by old) (λ s init ticks. BadLine trace s init ticks fault) printed
  bad_ran to fault bad = record {
    init = h.init;
    ticks = h.ticks;
    said = steps.is_bad h.init h.ticks old.at to fault h.read bad;
    shown = h.shown;
    run = h.run;
    lines = h.lines;
  }

  module _ (new : Runner) (stays : Stays old new) (tick : Tick) (read : TickRead trace old.shape old.at new.at tick) (clocks : List (Option ℕ)) (allows : Allows old.sim.net (numbers old.sim.state) tick (numbers new.sim.outputs) clocks (numbers new.sim.state)) where
    abbrev last : TickResult
    last = shows (numbers new.sim.outputs) clocks (numbers new.sim.state)

    ran_more : IsRun (Allows old.sim.net) h.init (h.ticks ++ tick ∷ []) (h.shown ++ last ∷ [])
    ran_more =
        run_more (Allows old.sim.net) tick last h.init h.ticks h.shown h.run
        (subst (λ (state : List ℕ). Allows old.sim.net state tick last.outputs last.clocks last.state) h.state allows)

    -- a tick was run, and this is its line
    module _ (line : List ℕ) (outputs_are : widths new.sim.outputs ≡ output_widths old.sim.net)
        (line_is : line ≡ line_text new.sim.outputs (if old.with_state then Some (with_widths (shape new.sim.net).state (numbers new.sim.state)) else None) None) where
      at_outputs : new.sim.outputs ≡ with_widths (output_widths old.sim.net) last.outputs
      at_outputs = sym (at_widths new.sim.outputs) ∙ ap (λ (ws : List ℕ). with_widths ws last.outputs) outputs_are

      shown_line : line ≡ shown_text (output_widths old.sim.net) (shape old.sim.net).state old.with_state last
      shown_line =
          line_is
          ∙ ap (λ net. line_text new.sim.outputs (if old.with_state then Some (with_widths (shape net).state (numbers new.sim.state)) else None) None) stays.net
          ∙ ap (λ (vs : List BitVector). line_text vs (if old.with_state then Some (with_widths (shape old.sim.net).state (numbers new.sim.state)) else None) None) at_outputs

      pub tick_ran : IsRunning trace new (printed ++ line)
      tick_ran = record {
        init = h.init;
        ticks = h.ticks ++ tick ∷ [];
        shown = h.shown ++ last ∷ [];
        read = subst (λ (s : TraceShape). IsReadTo trace s h.init (h.ticks ++ tick ∷ []) new.at) (sym stays.shape_stays) (steps.goes_on h.init h.ticks old.at new.at tick h.read read);
        run = subst (λ net. IsRun (Allows net) h.init (h.ticks ++ tick ∷ []) (h.shown ++ last ∷ [])) (sym stays.net) ran_more;
        state = sym (last_of h.init h.shown last);
        lines =
            ap (λ (l : List ℕ). printed ++ l) shown_line
            ∙ ap (λ (l : List ℕ). l ++ shown_text (output_widths old.sim.net) (shape old.sim.net).state old.with_state last) h.lines
            ∙ sym (text_more (output_widths old.sim.net) (shape old.sim.net).state old.with_state h.shown last)
            ∙ ap (λ (w : Bool). run_text (output_widths old.sim.net) (shape old.sim.net).state w (h.shown ++ last ∷ [])) (sym stays.as_shown)
            ∙ ap (λ (net : FlatNet). run_text (output_widths net) (shape net).state new.with_state (h.shown ++ last ∷ [])) (sym stays.net);
      }
