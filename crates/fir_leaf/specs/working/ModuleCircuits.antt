-- A module over its leaves as a circuit of its own (FIRRTL spec, "Modules", "Instances").
-- What its instances give is a source in it, as its inputs are. Of its ports and its state nothing is told.
use Rattle.std.specs.Prelude.{[]}
use Rattle.fir_meaning.specs.working.LeafModules.{LeafModule}
use Rattle.fir_meaning.specs.working.LeafCircuits.{LeafCircuit}

abbrev pub module_circuit : LeafModule → LeafCircuit
module_circuit m = record {
  leaves = m.leaves;
  body = m.body;
  inputs = [];
  clock_inputs = [];
  outputs = [];
  clock_outputs = [];
  words = [];
  arrays = m.arrays;
  array_order = [];
}
