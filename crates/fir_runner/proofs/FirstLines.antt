-- What is printed of the first ticks of a trace begins what the whole trace prints: both are lines of runs of a source of the one circuit of the text.
use Rattle.std.proofs.Common.{◌≡◌, ℕ, List, ◌++◌, Bool, inl, inr, sym, ap, ◌∙◌, subst}
use Rattle.fir_base.specs.Ticks.{Tick}
use Rattle.fir_meaning.specs.Elaborated.{IsSourceOf}
use Rattle.fir_meaning.specs.SourceAllows.{Allows}
use Rattle.fir_meaning.specs.SourceCircuits.{source_shape}
use Rattle.fir_meaning.specs.SourceDesigns.{SourceDesign}
use Rattle.trace_text.specs.Shapes.{TraceShape}
use Rattle.trace_text.specs.TraceSpells.{TraceSpells}
use Rattle.trace_text.specs.working.Fronts.{FrontLinesBegin, Says}
use Rattle.trace_lines.specs.Saying.{Saying, SaysBadly, SaysFront, PrintsAll}
use Rattle.fir_outcome.specs.Simulations.{Prints, PrintsRun}
use Rattle.fir_outcome.specs.Sources.{output_widths}
use Rattle.fir_outcome.specs.Traces.{IsTraceShape}
use Rattle.fir_runner.specs.working.Laws.{FrontsBegin}
use Rattle.fir_runner.proofs.TraceShapes.{one_shape}

-- what is said may be said otherwise
said_so : (text : List ℕ) (with_state : Bool) (A B : Saying) (printed : List ℕ)
    → ((s : TraceShape) (init : List ℕ) (ticks : List Tick) → A s init ticks → B s init ticks) → Prints text with_state A printed
    → Prints text with_state B printed
said_so text with_state A B printed h p = record {
  circuit = p.circuit;
  taken = p.taken;
  only_circuit = p.only_circuit;
  of_trace = p.of_trace;
  shaped = p.shaped;
  init = p.init;
  ticks = p.ticks;
  said = h p.of_trace p.init p.ticks p.said;
  shown = p.shown;
  source = p.source;
  is_source = p.is_source;
  prints = p.prints;
}

all_said : (text trace : List ℕ) (with_state : Bool) (all : List ℕ) → PrintsAll (Prints text with_state) (λ line lines. ⊥) trace all → Prints text with_state (Says trace) all
all_said text trace with_state all (inl p) = said_so text with_state (TraceSpells trace) (Says trace) all (λ s init ticks t. inl t) p
all_said text trace with_state all (inr (inl (line, p))) = said_so text with_state (SaysBadly trace line) (Says trace) all (λ s init ticks b. inr (b.0, b.1)) p
all_said text trace with_state all (inr (inr none)) = absurd none.1

module _ (law : (t : SourceDesign) → FrontLinesBegin (Allows t)) (text trace : List ℕ) (with_state : Bool) (printed all : List ℕ)
    (p : Prints text with_state (SaysFront trace) printed) (q : Prints text with_state (Says trace) all) where
  same_circuit : q.circuit ≡ p.circuit
  same_circuit = p.only_circuit q.circuit q.taken.spelled

  same_shape : q.of_trace ≡ p.of_trace
  same_shape = one_shape p.circuit q.of_trace p.of_trace (subst (λ c. IsTraceShape c q.of_trace) same_circuit q.shaped) p.shaped

  says : Says trace p.of_trace q.init q.ticks
  says = subst (λ s. Says trace s q.init q.ticks) same_shape q.said

  first : PrintsRun p.source with_state p.init p.ticks p.shown printed
  first = p.prints p.source p.is_source

  whole : PrintsRun p.source with_state q.init q.ticks q.shown all
  whole = q.prints p.source (subst (λ c. IsSourceOf c p.source) (sym same_circuit) p.is_source)

  begins : (later : List ℕ) × (all ≡ printed ++ later)
  begins =
      let front =
      law p.source (output_widths p.source) (source_shape p.source).state with_state trace p.of_trace p.said.0 p.init q.init p.ticks q.ticks p.shown q.shown
      p.said.1 p.said.2 (record { run = first.run; only = first.only_run }) says whole.run
      in
      (front.back, whole.lines ∙ front.parts ∙ ap (λ l. l ++ front.back) (sym first.lines))

pub fronts_begin : ((t : SourceDesign) → FrontLinesBegin (Allows t)) → FrontsBegin
fronts_begin law text trace with_state printed p all q = begins law text trace with_state printed all p (all_said text trace with_state all q)
