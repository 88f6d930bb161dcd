-- Where nothing failed and memory was there, the status is the one that the told contents give.
use Rattle.std.proofs.Common.{◌≡◌, ◌⊎◌, ℕ, List, inl, inr, refl, sym, subst}
use Rattle.fir_base.specs.Ticks.{Tick}
use Rattle.trace_text.specs.declared.fault.TraceFault.{TraceFault}
use Rattle.trace_text.specs.Shapes.{TraceShape}
use Rattle.trace_text.specs.TraceSpells.{TraceSpells}
use Rattle.trace_text.specs.BadLine.{BadLine}
use Rattle.trace_text.specs.working.Laws.{SpelledIsNotBad, SpellsOneTrace, ShowsOneBadLine}
use Rattle.trace_lines.specs.Saying.{SaysBadly}
use Rattle.fir_cli.specs.declared.status.Status.{Status}
use Rattle.fir_cli.specs.declared.status.Status.TheVariants.{Done, Refused, Usage, Unread, Unwritten, NoMemory, BadTrace, BadVerilog, TooLong}
use Rattle.fir_cli.specs.Outside.{Outside, IsRead, Tells, TellsTooMuch, code}
use Rattle.fir_cli.proofs.Told.{IsTooLong, not_short, read_is, not_too_much}
use Rattle.trace_command.specs.Simulates.{SimulationMeaning, SimulationFiles, IsAsked, EndsLacking, Simulates}
use Rattle.trace_command.specs.SimulationAnswers.{SimulationAnswers, SimulationComplete}
use Rattle.trace_command.specs.working.Laws.{SimulationLaws}

module _ (k : SimulationMeaning) (laws : SimulationLaws k) (s : SimulationFiles) (before : Outside) where
  abbrev Answers : ℕ → Type 0
  Answers = SimulationAnswers k s before

  module _ (text : List ℕ) (read_text : IsRead s.source before text) where
    told_text : (other : List ℕ) → Tells before s.source other → text ≡ other
    told_text other tells = read_is before s.source other text tells.told read_text

    text_short : TellsTooMuch before s.source → ⊥
    text_short = not_too_much before s.source text read_text

    shaped_text : (other : List ℕ) (shape : TraceShape) → Tells before s.source other → k.has_shape other shape → k.has_shape text shape
    shaped_text other shape tells shaped = subst (λ bytes. k.has_shape bytes shape) (sym (told_text other tells)) shaped

    -- the text was refused
    refused_answers : (k.takes text → ⊥) → Answers (code k.status)
    refused_answers none =
        let not_taken : (other : List ℕ) → Tells before s.source other → k.takes other → ⊥ = λ other tells taken. none (subst k.takes (sym (told_text other tells)) taken) in
        let no_shape : (other : List ℕ) (shape : TraceShape) → Tells before s.source other → k.has_shape other shape → ⊥ =
        λ other shape tells shaped. not_taken other tells (laws.shaped_is_taken other shape shaped) in
        record {
          too_long = λ much. absurd (text_short much);
          refused = λ other tells untaken. refl;
          trace_too_long = λ other tells taken much. absurd (not_taken other tells taken);
          done = λ other trace shape init ticks tells shaped tells_trace spells runs. absurd (no_shape other shape tells shaped);
          bad = λ other trace shape init ticks fault tells shaped tells_trace bad runs. absurd (no_shape other shape tells shaped);
          lacking = λ other trace shape init ticks tells shaped tells_trace spells stops. refl;
          lacking_before_bad = λ other trace shape init ticks fault tells shaped tells_trace bad stops. refl;
        }

    module _ (taken : k.takes text) where
      is_taken : (other : List ℕ) → Tells before s.source other → (k.takes other → ⊥) → ⊥
      is_taken other tells untaken = untaken (subst k.takes (told_text other tells) taken)

      -- the trace is too long
      trace_too_long_answers : IsTooLong before s.trace → Answers 8
      trace_too_long_answers long = record {
        too_long = λ much. refl;
        refused = λ other tells untaken. absurd (is_taken other tells untaken);
        trace_too_long = λ other tells also much. refl;
        done = λ other trace shape init ticks tells shaped tells_trace spells runs. absurd (not_short before s.trace trace long tells_trace);
        bad = λ other trace shape init ticks fault tells shaped tells_trace bad runs. absurd (not_short before s.trace trace long tells_trace);
        lacking = λ other trace shape init ticks tells shaped tells_trace spells stops. absurd (not_short before s.trace trace long tells_trace);
        lacking_before_bad = λ other trace shape init ticks fault tells shaped tells_trace bad stops. absurd (not_short before s.trace trace long tells_trace);
      }

      module _ (trace : List ℕ) (read_trace : IsRead s.trace before trace) where
        told_trace : (other : List ℕ) → Tells before s.trace other → trace ≡ other
        told_trace other tells = read_is before s.trace other trace tells.told read_trace

        trace_short : TellsTooMuch before s.trace → ⊥
        trace_short = not_too_much before s.trace trace read_trace

        -- a tick lacked a value
        lacking_answers : (line printed : List ℕ) → k.lacks text trace line printed → Answers (code k.status)
        lacking_answers line printed lacks =
            let stops : (other another : List ℕ) (shape : TraceShape) (init : List ℕ) (ticks : List Tick) → Tells before s.source other → k.has_shape other shape → Tells before s.trace another
            → TraceSpells another shape init ticks ⊎ ((fault : TraceFault) × BadLine another shape init ticks fault) → k.runs other init ticks → ⊥ =
            λ other another shape init ticks tells shaped tells_trace says runs.
            laws.lacking_does_not_run text trace line printed shape init ticks lacks (shaped_text other shape tells shaped)
            (subst (λ bytes. TraceSpells bytes shape init ticks ⊎ ((fault : TraceFault) × BadLine bytes shape init ticks fault)) (sym (told_trace another tells_trace)) says)
            (subst (λ bytes. k.runs bytes init ticks) (sym (told_text other tells)) runs) in
            record {
              too_long = λ much. absurd (text_short much);
              refused = λ other tells untaken. refl;
              trace_too_long = λ other tells also much. absurd (trace_short much);
              done = λ other another shape init ticks tells shaped tells_trace spells runs. absurd (stops other another shape init ticks tells shaped tells_trace (inl spells) runs);
              bad = λ other another shape init ticks fault tells shaped tells_trace bad runs. absurd (stops other another shape init ticks tells shaped tells_trace (inr (fault, bad)) runs);
              lacking = λ other another shape init ticks tells shaped tells_trace spells never. refl;
              lacking_before_bad = λ other another shape init ticks fault tells shaped tells_trace bad never. refl;
            }

        module _ (not_bad : SpelledIsNotBad) (one_trace : SpellsOneTrace) (one_bad : ShowsOneBadLine) (of_trace : TraceShape) (shaped_so : k.has_shape text of_trace)
            (init : List ℕ) (ticks : List Tick) (runs : k.runs text init ticks) where
          told_shape : (other : List ℕ) (shape : TraceShape) → Tells before s.source other → k.has_shape other shape → of_trace ≡ shape
          told_shape other shape tells shaped = laws.one_shape text of_trace shape shaped_so (shaped_text other shape tells shaped)

          runs_so : (other i : List ℕ) (ts : List Tick) → Tells before s.source other → init ≡ i → ticks ≡ ts → k.runs other i ts
          runs_so other i ts tells same_init same_ticks =
              subst (λ bytes. k.runs bytes i ts) (told_text other tells) (subst (λ x. k.runs text x ts) same_init (subst (λ x. k.runs text init x) same_ticks runs))

          -- all ticks were run
          module _ (spells : TraceSpells trace of_trace init ticks) where
            spells_so : (other another : List ℕ) (shape : TraceShape) → Tells before s.source other → k.has_shape other shape → Tells before s.trace another → TraceSpells another shape init ticks
            spells_so other another shape tells shaped tells_trace =
                subst (λ x. TraceSpells another x init ticks) (told_shape other shape tells shaped) (subst (λ bytes. TraceSpells bytes of_trace init ticks) (told_trace another tells_trace) spells)

            done_answers : Answers 0
            done_answers = record {
              too_long = λ much. absurd (text_short much);
              refused = λ other tells untaken. absurd (is_taken other tells untaken);
              trace_too_long = λ other tells also much. absurd (trace_short much);
              done = λ other another shape i ts tells shaped tells_trace also r. refl;
              bad = λ other another shape i ts fault tells shaped tells_trace bad r.
                  absurd (not_bad another shape init i ticks ts fault (spells_so other another shape tells shaped tells_trace) bad);
              lacking = λ other another shape i ts tells shaped tells_trace also stops.
                  let same = one_trace another shape init i ticks ts (spells_so other another shape tells shaped tells_trace) also in
                  absurd (stops (runs_so other i ts tells same.0 same.1));
              lacking_before_bad = λ other another shape i ts fault tells shaped tells_trace bad stops.
                  absurd (not_bad another shape init i ticks ts fault (spells_so other another shape tells shaped tells_trace) bad);
            }

          -- a bad line was met
          module _ (fault : TraceFault) (bad : BadLine trace of_trace init ticks fault) where
            bad_so : (other another : List ℕ) (shape : TraceShape) → Tells before s.source other → k.has_shape other shape → Tells before s.trace another → BadLine another shape init ticks fault
            bad_so other another shape tells shaped tells_trace =
                subst (λ x. BadLine another x init ticks fault) (told_shape other shape tells shaped) (subst (λ bytes. BadLine bytes of_trace init ticks fault) (told_trace another tells_trace) bad)

            bad_answers : Answers 6
            bad_answers = record {
              too_long = λ much. absurd (text_short much);
              refused = λ other tells untaken. absurd (is_taken other tells untaken);
              trace_too_long = λ other tells also much. absurd (trace_short much);
              done = λ other another shape i ts tells shaped tells_trace spells r.
                  absurd (not_bad another shape i init ts ticks fault spells (bad_so other another shape tells shaped tells_trace));
              bad = λ other another shape i ts f tells shaped tells_trace also r. refl;
              lacking = λ other another shape i ts tells shaped tells_trace spells stops.
                  absurd (not_bad another shape i init ts ticks fault spells (bad_so other another shape tells shaped tells_trace));
              lacking_before_bad = λ other another shape i ts f tells shaped tells_trace also stops.
                  let same = one_bad another shape init i ticks ts fault f (bad_so other another shape tells shaped tells_trace) also in
                  absurd (stops (runs_so other i ts tells same.0 same.1));
            }

  -- the first file is too long
  source_too_long_answers : IsTooLong before s.source → Answers 8
  source_too_long_answers long = record {
    too_long = λ much. refl;
    refused = λ text tells untaken. absurd (not_short before s.source text long tells);
    trace_too_long = λ text tells taken much. refl;
    done = λ text trace shape init ticks tells shaped tells_trace spells runs. absurd (not_short before s.source text long tells);
    bad = λ text trace shape init ticks fault tells shaped tells_trace bad runs. absurd (not_short before s.source text long tells);
    lacking = λ text trace shape init ticks tells shaped tells_trace spells stops. absurd (not_short before s.source text long tells);
    lacking_before_bad = λ text trace shape init ticks fault tells shaped tells_trace bad stops. absurd (not_short before s.source text long tells);
  }

  too_long_answers : (name : List ℕ) → IsAsked k s before name → IsTooLong before name → Answers 8
  too_long_answers name (inl same) long = source_too_long_answers (subst (IsTooLong before) same long)
  too_long_answers name (inr (same, text, read, taken)) long = trace_too_long_answers text read taken (subst (IsTooLong before) same long)

  -- an end with a status of refusals
  refusal_answers : (after : Outside) (ending : Status) → ending ≡ k.status → Answers (code k.status) → Answers (code ending)
  refusal_answers after ending same answers = subst (λ e. Answers (code e)) (sym same) answers

module _ (k : SimulationMeaning) (laws : SimulationLaws k) (not_bad : SpelledIsNotBad) (one_trace : SpellsOneTrace) (one_bad : ShowsOneBadLine) (s : SimulationFiles) (before after : Outside) where
  lacking_complete : (ending : Status) → EndsLacking k s before after ending → SimulationAnswers k s before (code ending)
  lacking_complete ending (same, line, m, grew) =
      refusal_answers k laws s before after ending same (lacking_answers k laws s before m.text m.read_text (laws.lacking_is_taken m.text m.trace line m.printed m.lacks) m.trace m.read_trace line m.printed m.lacks)

  at_once_complete : (ending : Status) (text line : List ℕ) → ending ≡ k.status → IsRead s.source before text → k.refuses text line → SimulationAnswers k s before (code ending)
  at_once_complete ending text line same read why =
      refusal_answers k laws s before after ending same (refused_answers k laws s before text read (laws.refused_is_not_taken text line why))

  -- the status of a simulation
  pub simulation_complete : (ending : Status) → Simulates k s before after ending → SimulationComplete k s before after (code ending)
  simulation_complete Done (text, trace, printed, read_text, read_trace, prints, grew, same) not_memory none_failed =
      let r = laws.prints_run text (TraceSpells trace) printed prints in
      done_answers k laws s before text read_text (laws.shaped_is_taken text r.shape r.shaped) trace read_trace not_bad one_trace one_bad r.shape r.shaped r.init r.ticks r.runs r.said
  simulation_complete BadTrace (line, m, grew) not_memory none_failed =
      let r = laws.prints_run m.text (SaysBadly m.trace line) m.printed m.prints in
      bad_answers k laws s before m.text m.read_text (laws.shaped_is_taken m.text r.shape r.shaped) m.trace m.read_trace not_bad one_trace one_bad r.shape r.shaped r.init r.ticks r.runs r.said.0 r.said.1
  simulation_complete Unwritten (inl h) not_memory none_failed = absurd (none_failed.out h.1)
  simulation_complete Unwritten (inr h) not_memory none_failed = absurd (none_failed.err h.1)
  simulation_complete NoMemory h not_memory none_failed = absurd (not_memory refl)
  simulation_complete Unread h not_memory none_failed = absurd (none_failed.files h.1.2)
  simulation_complete TooLong h not_memory none_failed = too_long_answers k laws s before h.1.0 h.1.1 h.1.3
  simulation_complete Refused (inl h) not_memory none_failed = at_once_complete Refused h.1.1 h.0 h.1.0 h.1.2 h.1.3
  simulation_complete Refused (inr h) not_memory none_failed = lacking_complete Refused h
  simulation_complete BadVerilog (inl h) not_memory none_failed = at_once_complete BadVerilog h.1.1 h.0 h.1.0 h.1.2 h.1.3
  simulation_complete BadVerilog (inr h) not_memory none_failed = lacking_complete BadVerilog h
  simulation_complete Usage (inl h) not_memory none_failed = at_once_complete Usage h.1.1 h.0 h.1.0 h.1.2 h.1.3
  simulation_complete Usage (inr h) not_memory none_failed = lacking_complete Usage h
