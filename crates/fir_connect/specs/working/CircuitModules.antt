-- A circuit over its leaves as one module, without ports and instances (FIRRTL spec, "Circuits").
use Rattle.std.specs.Prelude.{[]}
use Rattle.fir_meaning.specs.working.LeafCircuits.{LeafCircuit}
use Rattle.fir_meaning.specs.working.LeafModules.{LeafModule, no_leaf}

-- its leaves and statements as those of one module
abbrev pub as_module : LeafCircuit → LeafModule
as_module c = record {
  named = record { place = no_leaf.place; name = [] };
  declared = [];
  port_leaves = 0;
  leaves = c.leaves;
  arrays = [];
  memories = [];
  body = c.body;
}
