-- The leaf circuit of a design (FIRRTL spec, "Instances", "Circuits").
-- The leaves of the main module's ports have the first numbers. A source among them is an input, a sink an output; clocks are told apart from numbers.
use Rattle.std.specs.Prelude.{ℕ, List, [], ◌++◌, take, Bool, true, false, ◌&&◌}
use Rattle.fir_meaning.specs.working.LeafModules.{LeafDeclared, LeafModule, Role, is_sink, source}
use Rattle.fir_meaning.specs.LeafTypes.{LeafType, has_bits, is_clock}
use Rattle.fir_meaning.specs.working.LeafCircuits.{LeafCircuit}
use Rattle.fir_meaning.specs.working.Designs.{Design, made_of}
use Rattle.fir_meaning.specs.working.FlatDesigns.{flat_below}
use Rattle.fir_meaning.specs.working.FlatLeaves.{arrays_below, leaves_below}
use Rattle.fir_meaning.specs.working.StateWalks.{array_order_below, numbers_where, words_below}

abbrev pub is_input : Role → Bool
is_input source = true
is_input _ = false

abbrev pub port_leaves : LeafModule → List LeafDeclared
port_leaves m = take m.port_leaves m.leaves

abbrev pub ports_where : (Role → Bool) → (LeafType → Bool) → LeafModule → List ℕ
ports_where has_role holds m = numbers_where (λ (l : LeafDeclared). has_role l.role && holds l.holds) 0 (port_leaves m)

abbrev pub flattened : Design → LeafCircuit
flattened (made_of m is) = record {
  leaves = port_leaves m ++ leaves_below [] 0 0 m.port_leaves 0 (made_of m is);
  body = flat_below 0 m.port_leaves (made_of m is);
  inputs = ports_where is_input has_bits m;
  clock_inputs = ports_where is_input is_clock m;
  outputs = ports_where is_sink has_bits m;
  clock_outputs = ports_where is_sink is_clock m;
  words = words_below 0 m.port_leaves (made_of m is);
  arrays = arrays_below [] 0 m.port_leaves (made_of m is);
  array_order = array_order_below 0 (made_of m is);
}
