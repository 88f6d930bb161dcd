-- Of emitted text `vsim` prints what `sim` prints of the circuit, and at no tick an item lacks a value.
use Rattle.std.proofs.Common.{◌≡◌, ℕ, List, [], ◌∷◌, ◌++◌, Option, Some, None, inl, inr, refl, sym, ◌⊎◌, ⊎_elim, subst}
use Rattle.std.specs.List.{AllByRecursion}
use Rattle.fir_base.specs.Ticks.{FitEach, Tick, TickResult}
use Rattle.trace_text.specs.BadLine.{BadLine}
use Rattle.trace_text.specs.Shapes.{TraceShape, plain}
use Rattle.trace_text.specs.TraceSpells.{AreTicks, LinesSpell, TraceSpells}
use Rattle.trace_text.specs.working.Fronts.{Says}
use Rattle.trace_text.specs.working.Laws.{TraceIsSpelledOrBad}
use Rattle.trace_text.proofs.InitsFit.{inits_fit}
use Rattle.trace_lines.specs.Saying.{Saying, SaysBadly}
use Rattle.fir_cli.specs.declared.status.Status.{Status}
use Rattle.fir_cli.specs.declared.status.Status.TheVariants.{Done, Refused, Usage, Unread, Unwritten, NoMemory, BadTrace, BadVerilog, TooLong}
use Rattle.fir_cli.specs.Outside.{IsRead, Outside, Tells}
use Rattle.fir_cli.proofs.Told.{read_is}
use Rattle.trace_command.specs.Simulates.{EndsAtOnce, EndsLacking, Simulates}
use Rattle.ver_ast.specs.declared.tree.Verilog.{Verilog}
use Rattle.ver_ast.specs.Allows.{VAllows, VRun}
use Rattle.ver_ast.specs.Nets.{shape as v_shape}
use Rattle.ver_ast.specs.Spells.{VSpells}
use Rattle.ver_sim.specs.TraceShapes.{trace_shape}
use Rattle.ver_sim.proofs.NamedShapes.{named_shape}
use Rattle.ver_sim.proofs.TraceWidths.{plain_shape}
use Rattle.ver_read.specs.working.Laws.{RefusedIsNotValid}
use Rattle.ver_runner.specs.VerilogLines.{VLacked, VRan}
use Rattle.ver_runner.specs.working.Laws.{LackedDoesNotRun}
use Rattle.ver_command.specs.Vsim.{VLacks, VPrints, vsim_meaning}
use Rattle.fir_outcome.specs.Emits.{Emits}
use Rattle.fir_outcome.specs.Runs.{IsTick}
use Rattle.fir_emitted.specs.working.Laws.{OfEmitted}
use Rattle.fir_words.specs.Commands.{SimulatedVerilog}
use Rattle.fir_driver.specs.Emitted.{CircuitPrints, PrintsEmitted}
use Rattle.fir_driver.specs.Program.{verilog_files_of}

-- where nothing is said of the output
pub nothing_printed : (text : List ℕ) (s : SimulatedVerilog) (before after : Outside) (ending : Status) → (ending ≡ NoMemory) ⊎ (ending ≡ Unwritten)
    → CircuitPrints text s before after ending
nothing_printed text s before after ending (inl e) = subst (CircuitPrints text s before after) (sym e) tt
nothing_printed text s before after ending (inr e) = subst (CircuitPrints text s before after) (sym e) tt

-- each tick of a trace has the shape of the trace
ticks_fit : (shape : TraceShape) (lines : List (List ℕ)) (ticks : List Tick) → AreTicks shape lines ticks → AllByRecursion (IsTick (plain shape)) ticks
ticks_fit shape [] ticks are = subst (AllByRecursion (IsTick (plain shape))) (sym are) tt
ticks_fit shape (line ∷ lines) ticks (inl skipped) = ticks_fit shape lines ticks skipped.1
ticks_fit shape (line ∷ lines) ticks (inr (tick, rest, parts, is, more)) =
    subst (AllByRecursion (IsTick (plain shape))) (sym parts) (record { inputs_fit = is.inputs_fit; clocks_rise = is.clocks_rise }, ticks_fit shape lines rest more)

spelled_lines : (trace : List ℕ) (shape : TraceShape) (init : List ℕ) (ticks : List Tick) → Says trace shape init ticks → (lines : List (List ℕ)) × LinesSpell shape lines init ticks
spelled_lines trace shape init ticks (inl t) = (t.lines, t.spelled)
spelled_lines trace shape init ticks (inr (fault, bad)) = (bad.before, bad.spelled)

module _ (whole : (trace : List ℕ) → OfEmitted (TraceSpells trace)) (badly : (trace line : List ℕ) → OfEmitted (SaysBadly trace line))
    (refused : RefusedIsNotValid) (stops : LackedDoesNotRun) (spelled_or_bad : TraceIsSpelledOrBad)
    (s : SimulatedVerilog) (before after : Outside) (none : s.order ≡ None) (text written : List ℕ) (e : Emits text written) (told : Tells before s.verilog written) where
  abbrev v : Verilog
  v = e.verilog

  is_read : (read : List ℕ) → IsRead s.verilog before read → read ≡ written
  is_read read h = read_is before s.verilog written read told.told h

  same_tree : (read : List ℕ) (u : Verilog) → read ≡ written → ((other : Verilog) → VSpells read other → other ≡ u) → v ≡ u
  same_tree read u same only = only v (subst (λ bytes. VSpells bytes v) (sym same) e.v_spelled)

  ran : (read : List ℕ) (says : Saying) (printed : List ℕ) → read ≡ written → VPrints s.with_state s.order read says printed
      → VRan v None s.with_state (trace_shape v) says printed
  ran read says printed same p =
      subst (λ o. VRan v o s.with_state (trace_shape v) says printed) none
      (subst (λ u. VRan u s.order s.with_state (trace_shape u) says printed) (sym (same_tree read p.tree same p.only_tree)) p.ran)

  -- a run of the emitted tree goes through all that a trace says
  runs_through : (trace init : List ℕ) (ticks : List Tick) → Says trace (trace_shape v) init ticks → (shown : List TickResult) × VRun v init ticks shown
  runs_through trace init ticks says =
      let l = spelled_lines trace (trace_shape v) init ticks says in
      let fits = inits_fit (trace_shape v) l.1.front init (named_shape v e.compiles.valid e.v_spelled.names) l.1.inits in
      let ticks_are = ticks_fit (trace_shape v) l.1.back ticks l.1.ticks_are in
      let one =
      e.compiles.v_runs_once init ticks (subst (λ x. FitEach x.state init) (plain_shape v) fits) (subst (λ x. AllByRecursion (IsTick x) ticks) (plain_shape v) ticks_are) in
      (one.shown, one.run)

  not_lacking : (read trace line printed : List ℕ) → read ≡ written → VLacks s.with_state s.order read trace line printed → ⊥
  not_lacking read trace line printed same p =
      let only : p.tree ≡ v = e.only_verilog p.tree (subst (λ bytes. VSpells bytes p.tree) same p.taken.spelled) in
      let lacked : VLacked v s.order s.with_state (trace_shape v) trace p.lack printed =
      subst (λ u. VLacked u s.order s.with_state (trace_shape u) trace p.lack printed) only p.lacked in
      ⊎_elim
      (λ h. let r = runs_through trace h.0 h.1 (inl h.2) in
      stops v e.compiles.valid s.order s.with_state (trace_shape v) trace p.lack printed lacked h.0 h.1 r.0 (inl h.2) r.1)
      (λ h. let r = runs_through trace h.0 h.1 (inr (h.2, h.3)) in
      stops v e.compiles.valid s.order s.with_state (trace_shape v) trace p.lack printed lacked h.0 h.1 r.0 (inr (h.2, h.3)) r.1)
      (spelled_or_bad trace (trace_shape v))

  not_faulty : EndsAtOnce (vsim_meaning s.with_state s.order) (verilog_files_of s) before after BadVerilog → ⊥
  not_faulty (line, (same_status, text, read, (f, fault, line_is)), kept, said) =
      refused text f v fault (record { spelled = subst (λ bytes. VSpells bytes v) (sym (is_read text read)) e.v_spelled; valid = e.compiles.valid })

  by : (ending : Status) → Simulates (vsim_meaning s.with_state s.order) (verilog_files_of s) before after ending → CircuitPrints text s before after ending
  by Done (read, trace, printed, read_text, read_trace, p, grew, err) =
      (trace, printed, read_trace, whole trace text written e s.with_state printed (ran read (TraceSpells trace) printed (is_read read read_text) p), grew)
  by BadTrace (line, met, grew) = (
    met.trace,
    line,
    met.printed,
    met.read_trace,
    badly met.trace line text written e s.with_state met.printed (ran met.text (SaysBadly met.trace line) met.printed (is_read met.text met.read_text) met.prints),
    met.whole,
  )
  by BadVerilog (inl h) = not_faulty h
  by BadVerilog (inr (is, line, met, grew)) = not_lacking met.text met.trace line met.printed (is_read met.text met.read_text) met.lacks
  by Refused h = tt
  by Usage h = tt
  by Unread h = tt
  by Unwritten h = tt
  by NoMemory h = tt
  by TooLong h = tt

pub prints_emitted : ((trace : List ℕ) → OfEmitted (TraceSpells trace)) → ((trace line : List ℕ) → OfEmitted (SaysBadly trace line)) → RefusedIsNotValid → LackedDoesNotRun
    → TraceIsSpelledOrBad → (s : SimulatedVerilog) (before after : Outside) (ending : Status)
    → Simulates (vsim_meaning s.with_state s.order) (verilog_files_of s) before after ending → PrintsEmitted s before after ending
prints_emitted whole badly refused stops spelled_or_bad s before after ending h none text written e told =
    by whole badly refused stops spelled_or_bad s before after none text written e told ending h
