-- The traces of a circuit.
-- A tick gives a value for each input leaf of the circuit's source and names clocks, both in the order of the ports; the words of the state are the leaves of
-- registers and of pipes, and behind them the arrays, under the names that they have in the emitted text.
use Rattle.std.specs.Prelude.{◌≡◌, ℕ, List, [], ◌++◌, Some, None, map}
use Rattle.fir_ast.specs.Circuits.{CircuitTree}
use Rattle.fir_meaning.specs.Elaborated.{IsSourceOf}
use Rattle.fir_meaning.specs.SourceCircuits.{source_shape}
use Rattle.fir_meaning.specs.SourceDesigns.{SourceDesign}
use Rattle.fir_net_names.specs.Names.{AreNamed}
use Rattle.fir_net.specs.Rows.{array_names, row_names, word_names}
use Rattle.fir_flatten.specs.SourceRows.{source_array_rows, source_rows, source_words}
use Rattle.trace_text.specs.Shapes.{TraceShape, WordKind, plain, word_kinds}

-- words of no depth, and then the arrays with theirs
abbrev pub source_kinds : SourceDesign → List WordKind
source_kinds t = map (λ w. (w.width, None)) (source_words t) ++ map (λ a. (a.width, Some a.depth)) (source_array_rows t)

pub record IsShapeFor (t : SourceDesign) (s : TraceShape) : Type 0 where
  pub values : plain s ≡ source_shape t
  pub words : word_kinds s.state ≡ source_kinds t
  -- the names of the ports, which come first, and of the words and arrays
  pub ports : List (List ℕ)
  pub named :
      AreNamed [] (row_names (source_rows t) ++ word_names (source_words t) ++ array_names (source_array_rows t)) (ports ++ map (λ w. w.name) s.state)

pub record IsTraceShape (c : CircuitTree) (s : TraceShape) : Type 0 where
  pub source : SourceDesign
  pub is_source : IsSourceOf c source
  pub each : (t : SourceDesign) → IsSourceOf c t → IsShapeFor t s
