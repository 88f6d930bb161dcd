-- The leaf circuit of a design and the tree of its source modules go in step; so they have one shape and allow the same.
use Rattle.fir_ast.specs.Circuits.{CircuitTree}
use Rattle.fir_meaning.specs.working.Designs.{Design}
use Rattle.fir_meaning.specs.working.Flattened.{flattened}
use Rattle.fir_design.specs.working.MeaningLaws.{AreDesigns, SameAllows, SameShape}
use Rattle.fir_meaning.specs.SourceDesigns.{SourceDesign}
use Rattle.fir_design.proofs.FlatInStep.{arrays_once, each_array, each_leaf, leaves_named, leaves_once, many_arrays, many_leaves}
use Rattle.fir_design.proofs.InStep.{InStep}
use Rattle.fir_design.proofs.PortNumbers.{clock_inputs_within, inputs_within, ports_agree}
use Rattle.fir_design.proofs.SameMeanings.{allows_is_same, shape_is_same}
use Rattle.fir_design.proofs.StateNumbers.{arrays_are, words_are}
use Rattle.fir_design.proofs.StoredInStep.{clocks_in_step, numbers_in_step}
use Rattle.fir_design.proofs.ViewRoles.{views_same}

pub in_step : (c : CircuitTree) (d : Design) (t : SourceDesign) → AreDesigns c d t → InStep (flattened d) t
in_step c d t are =
    let ports = ports_agree views_same c d t are in
    record {
      many = many_leaves c views_same d t are;
      each = each_leaf c views_same d t are;
      once = leaves_once c views_same d t are;
      named = leaves_named c views_same d t are;
      many_arrays = many_arrays c views_same d t are;
      each_array = each_array c views_same d t are;
      arrays_once = arrays_once c views_same d t are;
      words = words_are views_same c d t are;
      array_order = arrays_are views_same c d t are;
      inputs_within = inputs_within d;
      clock_inputs_within = clock_inputs_within d;
      inputs_are = ports.inputs_are;
      clock_inputs_are = ports.clock_inputs_are;
      outputs_are = ports.outputs_are;
      clock_outputs_are = ports.clock_outputs_are;
      numbers_stored = numbers_in_step c d t are;
      clocks_stored = clocks_in_step c d t are;
    }

pub same_shape : SameShape
same_shape c d t are = shape_is_same (flattened d) t (in_step c d t are)

pub same_allows : SameAllows
same_allows c d t state tick shown clocks_shown after are = allows_is_same (flattened d) t state tick shown clocks_shown after (in_step c d t are)
