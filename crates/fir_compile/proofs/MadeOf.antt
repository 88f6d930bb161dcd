-- What a simulation of a text is made of, by way of the circuit's net.
use Rattle.std.proofs.Common.{◌≡◌, ℕ, List, [], ◌++◌, Some, None, ap₂, ◌∙◌, subst, map}
use Rattle.fir_ast.specs.Circuits.{CircuitTree}
use Rattle.fir_parse.specs.working.Laws.{SpellsOneTree}
use Rattle.fir_meaning.specs.Elaborated.{IsSourceOf}
use Rattle.fir_meaning.specs.SourceDesigns.{SourceDesign}
use Rattle.fir_net.specs.declared.net.FlatNet.{FlatNet}
use Rattle.fir_net_names.specs.Names.{AreNamed}
use Rattle.fir_net.specs.Rows.{ArrayRow, Row, Word, array_names, row_names, word_names}
use Rattle.fir_net.specs.working.Rows.{net_arrays, net_rows, net_words}
use Rattle.fir_flatten.specs.SourceRows.{source_rows, source_words}
use Rattle.fir_flatten.specs.working.FlattensTo.{FlattensTo, MeansSource}
use Rattle.ver_build.specs.working.Laws.{NamesAreForRows}
use Rattle.trace_text.specs.Shapes.{TraceShape, WordKind}
use Rattle.fir_tick.specs.working.Shapes.{IsShapeOf}
use Rattle.fir_outcome.specs.Traces.{IsShapeFor, IsTraceShape}
use Rattle.fir_compile.specs.working.Made.{IsMadeOf}
use Rattle.fir_compile.specs.working.Readings.{CompilesText}

abbrev of_register : Word → WordKind
of_register w = (w.width, None)

abbrev of_array : ArrayRow → WordKind
of_array a = (a.width, Some a.depth)

module _ (names : NamesAreForRows) (c : CircuitTree) (net : FlatNet) (s : TraceShape) (flat : FlattensTo c net) (of_net : IsShapeOf net s) where
  -- the names of the shape are for these rows
  abbrev Named : List Row → List Word → List ArrayRow → Type 0
  Named rows words arrays = AreNamed [] (row_names rows ++ word_names words ++ array_names arrays) (of_net.ports ++ map (λ w. w.name) s.state)

  shape_for : (t : SourceDesign) → IsSourceOf c t → IsShapeFor t s
  shape_for t is =
      let means : MeansSource t net = flat.each t is in
      let with_arrays : Named (net_rows net) (net_words net) (net_arrays net) =
      subst (λ (ns : List (List ℕ)). AreNamed [] (row_names (net_rows net) ++ word_names (net_words net) ++ array_names (net_arrays net)) ns) of_net.names
      (names net of_net.table flat.whole of_net.named) in
      record {
        values = of_net.values ∙ means.shapes;
        words = of_net.words ∙ ap₂ (λ (ws : List Word) (xs : List ArrayRow). map of_register ws ++ map of_array xs) means.words means.arrays;
        ports = of_net.ports;
        named =
            subst (Named (source_rows t) (source_words t)) means.arrays
            (subst (λ (words : List Word). Named (source_rows t) words (net_arrays net)) means.words
            (subst (λ (rows : List Row). Named rows (net_words net) (net_arrays net)) means.ports with_arrays));
      }

  trace_shape : IsTraceShape c s
  trace_shape = record { source = flat.source; is_source = flat.is_source; each = shape_for }

pub made_of : SpellsOneTree → NamesAreForRows → (text : List ℕ) (net : FlatNet) (s : TraceShape) → CompilesText text net → IsShapeOf net s
    → IsMadeOf text net s
made_of one names text net s h of_net = record {
  circuit = h.circuit;
  taken = h.taken;
  only_circuit = λ other spelled. one text other h.circuit spelled h.taken.spelled;
  flattened = h.flattened;
  one = h.one;
  shaped = trace_shape names h.circuit net s h.flattened of_net;
  of_net = of_net.values;
}
