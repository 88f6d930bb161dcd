-- The run of an emitted tree is the run of each source of the circuit, so that both print the same.
use Rattle.std.proofs.Common.{◌≡◌, ℕ, List, [], ◌++◌, Bool, refl, sym, ap, ◌∙◌, subst}
use Rattle.std.specs.Prelude.{Some}
use Rattle.fir_base.specs.Ticks.{Shape, Tick, TickResult}
use Rattle.trace_text.specs.RunLines.{run_text}
use Rattle.trace_lines.specs.Saying.{Saying}
use Rattle.ver_ast.specs.declared.tree.Verilog.{Verilog}
use Rattle.ver_ast.specs.Allows.{VRun}
use Rattle.ver_ast.specs.Nets.{output_nets, shape, widths_of}
use Rattle.ver_ast.specs.Valid.{Valid}
use Rattle.ver_ast.specs.working.Laws.{RunsAtMostOnce}
use Rattle.ver_sim.specs.TraceShapes.{trace_shape}
use Rattle.ver_sim.proofs.TraceWidths.{some_plain}
use Rattle.fir_meaning.specs.SourceDesigns.{SourceDesign}
use Rattle.fir_net.specs.Rows.{array_names, row_names, word_names}
use Rattle.fir_net_names.specs.Names.{AreNamed}
use Rattle.ver_build.specs.Ports.{port_names}
use Rattle.fir_flatten.specs.SourceRows.{source_array_rows, source_rows, source_words}
use Rattle.fir_outcome.specs.Compiles.{CompilesTo}
use Rattle.fir_outcome.specs.Simulations.{PrintsRun}
use Rattle.fir_outcome.specs.Sources.{output_widths}
use Rattle.fir_outcome.specs.Traces.{IsShapeFor}
use Rattle.fir_emitted.specs.working.Laws.{EmittedHasShape, OfEmitted}
use Rattle.fir_emitted.proofs.OutputWidths.{same_widths}
use Rattle.fir_emitted.proofs.TraceWords.{kinds_are, names_read}

module _ (name : List ℕ) (t : SourceDesign) (v : Verilog) (means : CompilesTo name t v) where
  shape_for : IsShapeFor t (trace_shape v)
  shape_for = record {
    values = some_plain v (Some (trace_shape v)) refl ∙ means.shapes;
    words = kinds_are t v name means.named;
    ports = port_names v;
    named = subst
        (AreNamed [] (row_names (source_rows t) ++ word_names (source_words t) ++ array_names (source_array_rows t)))
        (sym (names_read v)) means.named.named_leaves;
  }

  -- a tree runs once at most, and so does the source
  prints_run : RunsAtMostOnce → Valid v → (with_state : Bool) (init : List ℕ) (ticks : List Tick) (shown : List TickResult) (printed : List ℕ)
      → VRun v init ticks shown → printed ≡ run_text (widths_of (output_nets v)) (shape v).state with_state shown
      → PrintsRun t with_state init ticks shown printed
  prints_run once valid with_state init ticks shown printed run lines = record {
    one = means.one;
    run = (means.runs init ticks shown).0 run;
    only_run = λ others other. once v valid init ticks others shown ((means.runs init ticks others).1 other) run;
    lines = lines
        ∙ ap (λ (widths : List ℕ). run_text widths (shape v).state with_state shown) (same_widths t v means.named.ports)
        ∙ ap (λ (s : Shape). run_text (output_widths t) s.state with_state shown) means.shapes;
  }

pub has_shape : EmittedHasShape
has_shape read written e = record {
  source = e.compiles.source;
  is_source = e.compiles.is_source;
  each = λ t is. shape_for e.circuit.named.name t e.verilog (e.compiles.each t is);
}

pub of_emitted : RunsAtMostOnce → (says : Saying) → OfEmitted says
of_emitted once says read written e with_state printed ran = record {
  circuit = e.circuit;
  taken = e.taken;
  only_circuit = e.only_circuit;
  of_trace = trace_shape e.verilog;
  shaped = has_shape read written e;
  init = ran.init;
  ticks = ran.ticks;
  said = ran.said;
  shown = ran.shown;
  source = e.compiles.source;
  is_source = e.compiles.is_source;
  prints = λ t is.
      prints_run e.circuit.named.name t e.verilog (e.compiles.each t is) once e.compiles.valid with_state ran.init ran.ticks ran.shown printed ran.run ran.lines;
}
