-- What a step of a simulation makes of what was there before it.
use Rattle.std.proofs.Common.{◌≡◌, ℕ, ◌+◌, List, [], ◌∷◌, ◌++◌, if◌then◌else◌, Option, Some, None, sym, ap, ◌∙◌, subst, length-append}
use Rattle.std.specs.Prelude.{option_map}
use Rattle.fir_base.specs.Ticks.{Tick, TickResult}
use Rattle.trace_text.specs.declared.fault.TraceFault.{TraceFault}
use Rattle.trace_text.specs.BadLine.{BadLine}
use Rattle.trace_text.specs.OutputLines.{line_text}
use Rattle.trace_text.specs.RunLines.{with_widths, shown_text}
use Rattle.trace_text.specs.TraceSpells.{TraceSpells}
use Rattle.trace_text.specs.working.Readings.{TickRead, NoTick, TickIsBad}
use Rattle.trace_text.specs.working.Steps.{IsReadTo, ReadsInSteps}
use Rattle.trace_lines.specs.Runs.{last_state}
use Rattle.trace_lines.specs.declared.simulation.Lack.{Lack}
use Rattle.trace_lines.specs.working.Growing.{RunsGrow, LastIsLeft, LinesGrow}
use Rattle.ver_ast.specs.declared.tree.Verilog.{Verilog}
use Rattle.ver_ast.specs.Allows.{VAllows, VRun}
use Rattle.ver_ast.specs.Nets.{shape}
use Rattle.ver_order.specs.Rounds.{process_count}
use Rattle.ver_sim.specs.declared.sim.NoValue.{NoValue}
use Rattle.ver_sim.specs.working.NoValues.{LacksAtRest}
use Rattle.ver_sim.specs.working.Views.{shown_env, shown_outputs}
use Rattle.ver_ast.specs.declared.place.VPlace.{VPlace}
use Rattle.ver_runner.specs.declared.runner.Order.{Order}
use Rattle.ver_runner.specs.declared.runner.VRunner.{VRunner}
use Rattle.ver_runner.specs.Counting.{CountsTick}
use Rattle.ver_runner.specs.Orders.{round_for}
use Rattle.ver_runner.specs.VerilogLines.{counted_text, output_widths, PrintsLines}
use Rattle.ver_runner.specs.working.Running.{CountsBy, HasMade, IsOrderOf, Lacked, LinesTo, Ran, Simulated, numbered, simulated_by}
use Rattle.ver_runner.specs.working.Fronts.{lines_print}
use Rattle.ver_runner.proofs.Counted.{as_many, counted_more, counts_more}

module _ (trace : List ℕ) (old : VRunner) (printed : List ℕ) (steps : ReadsInSteps trace old.shape) (h : HasMade trace old printed) where
  prints : PrintsLines old.sim.tree (option_map numbered old.order) old.shown.with_state h.init h.ticks h.shown printed
  prints = lines_print old.sim.tree (option_map numbered old.order) old.shown.with_state h.init h.ticks h.shown (shown_env old.sim) printed h.lines

  -- no tick is left
  pub whole_ran : (to : ℕ) → NoTick trace old.at to → Ran (simulated_by old) (TraceSpells trace) printed
  whole_ran to none = record {
    init = h.init;
    ticks = h.ticks;
    said = steps.ends h.init h.ticks old.at to h.read none;
    shown = h.shown;
    run = h.run;
    lines = prints;
  }

  -- a line is bad
  pub bad_ran : (to : ℕ) (fault : TraceFault) → TickIsBad trace old.shape old.at to fault → Ran (simulated_by old) (λ s init ticks. BadLine trace s init ticks fault) printed
  bad_ran to fault bad = record {
    init = h.init;
    ticks = h.ticks;
    said = steps.is_bad h.init h.ticks old.at to fault h.read bad;
    shown = h.shown;
    run = h.run;
    lines = prints;
  }

  module _ (to : ℕ) (tick : Tick) (read : TickRead trace old.shape old.at to tick) where
    read_more : IsReadTo trace old.shape h.init (h.ticks ++ tick ∷ []) to
    read_more = steps.goes_on h.init h.ticks old.at to tick h.read read

    -- at the next tick an item lacks a value
    pub lacked : (n : NoValue) (lack : Lack) → lack ≡ record { line = n.place.line; col = n.place.col; tick = old.ticks + 1 } → LacksAtRest old.sim.tree old.sim.state tick n
        → Lacked (simulated_by old) trace lack printed
    lacked n lack is l =
        let at : LacksAtRest old.sim.tree (last_state h.init h.shown) tick n = subst (λ (s : List ℕ). LacksAtRest old.sim.tree s tick n) h.state l in
        record {
          init = h.init;
          ticks = h.ticks;
          tick = tick;
          said = (read_more.lines, read_more.lines_are, read_more.spelled);
          shown = h.shown;
          run = h.run;
          lines = prints;
          env = at.env;
          rest = at.rest;
          item = at.item;
          lacks = at.first;
          line = ap (λ (k : Lack). k.line) is ∙ ap (λ (p : VPlace). p.line) at.place_is;
          col = ap (λ (k : Lack). k.col) is ∙ ap (λ (p : VPlace). p.col) at.place_is;
          number = ap (λ (k : Lack). k.tick) is ∙ ap (λ k. k + 1) h.count;
        }

    -- a tick was run, and this is its line
    module _ (grow : RunsGrow (VAllows old.sim.tree)) (left : LastIsLeft) (lines_grow : LinesGrow) (new : VRunner) (tree : new.sim.tree ≡ old.sim.tree) (stays : simulated_by new ≡ simulated_by old)
        (at : new.at ≡ to) (ticks : new.ticks ≡ old.ticks + 1) (clocks : List (Option ℕ))
        (allows : VAllows old.sim.tree old.sim.state tick (shown_outputs new.sim) clocks new.sim.state)
        (is_order : IsOrderOf old.sim.tree old.order) (counted : Option ℕ)
        (counts : CountsBy old.sim.tree old.order old.sim.state tick (shown_env old.sim) counted new.sim.state (shown_env new.sim))
        (line : List ℕ)
        (line_is : line ≡ line_text (with_widths (output_widths old.sim.tree) (shown_outputs new.sim)) (if old.shown.with_state then Some (with_widths (shape old.sim.tree).state new.sim.state) else None) counted) where
      abbrev last : TickResult
      last = record { outputs = shown_outputs new.sim; clocks = clocks; state = new.sim.state }

      run_more : VRun old.sim.tree h.init (h.ticks ++ tick ∷ []) (h.shown ++ last ∷ [])
      run_more =
          grow h.init h.ticks h.shown tick last h.run
          (subst (λ (state : List ℕ). VAllows old.sim.tree state tick last.outputs last.clocks last.state) h.state allows)

      -- without an order, and with one
      lines_more : (order : Option Order) (number : Option ℕ) → IsOrderOf old.sim.tree order → CountsBy old.sim.tree order old.sim.state tick (shown_env old.sim) number new.sim.state (shown_env new.sim)
          → line ≡ line_text (with_widths (output_widths old.sim.tree) (shown_outputs new.sim)) (if old.shown.with_state then Some (with_widths (shape old.sim.tree).state new.sim.state) else None) number
          → LinesTo old.sim.tree (option_map numbered order) old.shown.with_state h.init h.ticks h.shown (shown_env old.sim) printed
          → LinesTo old.sim.tree (option_map numbered order) old.shown.with_state h.init (h.ticks ++ tick ∷ []) (h.shown ++ last ∷ []) (shown_env new.sim) (printed ++ line)
      lines_more None None o k is before =
          ap (λ l. printed ++ l) is ∙ ap (λ l. l ++ shown_text (output_widths old.sim.tree) (shape old.sim.tree).state old.shown.with_state last) before
          ∙ sym (lines_grow (output_widths old.sim.tree) (shape old.sim.tree).state old.shown.with_state h.shown last)
      lines_more None (Some number) o k is before = absurd k
      lines_more (Some order) None o k is before = absurd k
      lines_more (Some order) (Some number) o k is before =
          let round = round_for (process_count old.sim.tree) order.number in
          let here : CountsTick old.sim.tree round (last_state h.init h.shown) tick (shown_env old.sim) number last.state (shown_env new.sim) =
          subst (λ (r : List ℕ). CountsTick old.sim.tree r (last_state h.init h.shown) tick (shown_env old.sim) number last.state (shown_env new.sim)) o
          (subst (λ (s : List ℕ). CountsTick old.sim.tree order.round.items s tick (shown_env old.sim) number last.state (shown_env new.sim)) h.state k) in
          let long = as_many old.sim.tree round h.init before.1.start (shown_env old.sim) h.ticks h.shown before.0 before.1.counts_each in (
            before.0 ++ number ∷ [],
            record {
              start = before.1.start;
              has_start = before.1.has_start;
              counts_each = counts_more old.sim.tree round tick last number (shown_env old.sim) (shown_env new.sim) h.init before.1.start h.ticks h.shown before.0 before.1.counts_each here;
            },
            ap (λ l. printed ++ l) is ∙ ap (λ l. l ++ counted_text (output_widths old.sim.tree) (shape old.sim.tree).state old.shown.with_state last number) before.2
                ∙ sym (counted_more (output_widths old.sim.tree) (shape old.sim.tree).state old.shown.with_state last number h.shown before.0 long),
          )

      pub tick_ran : HasMade trace new (printed ++ line)
      tick_ran = record {
        init = h.init;
        ticks = h.ticks ++ tick ∷ [];
        shown = h.shown ++ last ∷ [];
        read =
            subst (λ (s : Simulated). IsReadTo trace s.shape h.init (h.ticks ++ tick ∷ []) new.at) (sym stays)
            (subst (IsReadTo trace old.shape h.init (h.ticks ++ tick ∷ [])) (sym at) read_more);
        run = subst (λ (v : Verilog). VRun v h.init (h.ticks ++ tick ∷ []) (h.shown ++ last ∷ [])) (sym tree) run_more;
        state = sym (left h.init h.shown last);
        lines =
            subst (λ (s : Simulated). LinesTo s.tree s.order s.with_state h.init (h.ticks ++ tick ∷ []) (h.shown ++ last ∷ []) (shown_env new.sim) (printed ++ line)) (sym stays)
            (lines_more old.order counted is_order counts line_is h.lines);
        count = ticks ∙ ap (λ k. k + 1) h.count ∙ sym (length-append h.ticks (tick ∷ []));
      }
