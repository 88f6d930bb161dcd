-- The flat net of a plain circuit: leaf by leaf what its roles say, with the same ports and state.
use Rattle.std.proofs.Common.{◌≡◌, ℕ, ◌<◌, ◌≤◌, slice_get, true, false, ◌&&◌, Some, sym, ap, ◌∙◌}
use Rattle.fir_meaning.specs.LeafTypes.{is_clock, LeafType, a_clock, number, has_bits}
use Rattle.fir_meaning.specs.LeafPaths.{path_text}
use Rattle.fir_meaning.specs.working.Flattened.{is_input}
use Rattle.fir_meaning.specs.working.LeafCircuits.{LeafCircuit, depth_of, role_of}
use Rattle.fir_meaning.specs.working.LeafModules.{LeafArray, LeafDeclared, LeafModule, is_sink, leaf_at}
use Rattle.fir_meaning.specs.working.StateWalks.{numbers_where}
use Rattle.fir_leaf_types.specs.working.TypedModules.{held_in}
use Rattle.fir_connect.specs.working.CircuitModules.{as_module}
use Rattle.fir_connect.specs.working.NetRoles.{net_types}
use Rattle.fir_net.specs.declared.array.Array.{Array}
use Rattle.fir_net.specs.declared.leaf.Leaf.{Leaf}
use Rattle.fir_net.specs.declared.net.FlatNet.{FlatNet}
use Rattle.fir_net.specs.working.IsNet.{is_port}
use Rattle.fir_net.specs.working.Settled.{clock_number, clock_output_number, clock_outputs, clocks, input_number, inputs, output_number, outputs}
use Rattle.fir_flat.specs.working.FlatCircuits.{HasType, IsFlatOf}
use Rattle.fir_flat.specs.working.FlatLaws.{IsFaithful}
use Rattle.fir_flat.specs.working.FlatLoops.{IsNamedAs}
use Rattle.fir_flatten.specs.working.FlatDesigns.{HasWidth, IsFlatDesign, IsPlainDesign}
use Rattle.fir_flatten.proofs.DesignPorts.{HasPorts}
use Rattle.fir_flatten.proofs.FlatNumbers.{numbers_taken}
use Rattle.fir_flatten.proofs.GivenNumbers.{clock_given, clock_output_given, input_given, no_clock, no_clock_output, no_input, no_output, output_given}
use Rattle.fir_flatten.proofs.LeafRoles.{IsShaped, net_width, role_shaped}

width_is : (l : Leaf) (h : LeafType) → HasWidth l h → l.width ≡ net_width h
width_is l (number t) has = has.1
width_is l a_clock has = has.1

type_is : (l : Leaf) (h : LeafType) → HasWidth l h → HasType l h
type_is l (number t) has = has
type_is l a_clock has = tt

-- a leaf of the net beside one of the circuit
pub record IsPlainLeaf (d : LeafDeclared) (l : Leaf) : Type 0 where
  pub shaped : IsShaped l.role d.holds d.role
  pub width : l.width ≡ net_width d.holds

-- a flat net of a circuit, in which so many leaves are ports
pub record IsPlainNet (c : LeafCircuit) (ports : ℕ) (net : FlatNet) : Type 0 where
  pub flat : IsFlatOf c net
  pub named : IsNamedAs c net
  pub each : (x : ℕ) (l : Leaf) → slice_get net.leaves x ≡ Some l → IsPlainLeaf (leaf_at c.leaves x) l
  pub outer : (x : ℕ) (l : Leaf) → slice_get net.leaves x ≡ Some l → x < ports → is_port l.role ≡ true
  pub inner : (x : ℕ) (l : Leaf) → slice_get net.leaves x ≡ Some l → ports ≤ x → is_port l.role ≡ false
  pub array_paths : (n : ℕ) (a : Array) (d : LeafArray) → slice_get net.arrays n ≡ Some a → slice_get c.arrays n ≡ Some d → a.path ≡ path_text d.path

module _ (c : LeafCircuit) (m : LeafModule) (net : FlatNet) (plain : IsPlainDesign c m.port_leaves) (has : HasPorts m c)
    (is : IsFlatDesign c m.port_leaves net) where
  leaf_plain : (x : ℕ) (l : Leaf) → slice_get net.leaves x ≡ Some l → IsPlainLeaf (leaf_at c.leaves x) l
  leaf_plain x l at =
      record {
        shaped =
            role_shaped net.nodes (net_types (as_module c)) (depth_of c x) c.body x l.role (held_in (as_module c) x) (role_of c x) (is.each x l at).role;
        width = width_is l (held_in (as_module c) x) (is.each x l at).has_width;
      }

  inputs_are : inputs net ≡ c.inputs
  inputs_are =
      numbers_taken input_number (λ (l : LeafDeclared). is_input l.role && has_bits l.holds) m.port_leaves 0 net.leaves c.leaves is.count
      (λ x k l at lt. let own = leaf_plain x l at in input_given l.role l.width k (held_in (as_module c) x) (role_of c x) own.shaped own.width)
      (λ x k l at le. no_input l.role l.width k ((is.each x l at).inner le))
      ∙ ap (numbers_where (λ (l : LeafDeclared). is_input l.role && has_bits l.holds) 0) has.leaves ∙ sym has.inputs

  clocks_are : clocks net ≡ c.clock_inputs
  clocks_are =
      numbers_taken clock_number (λ (l : LeafDeclared). is_input l.role && is_clock l.holds) m.port_leaves 0 net.leaves c.leaves is.count
      (λ x k l at lt. clock_given l.role l.width k (held_in (as_module c) x) (role_of c x) (leaf_plain x l at).shaped)
      (λ x k l at le. no_clock l.role l.width k ((is.each x l at).inner le))
      ∙ ap (numbers_where (λ (l : LeafDeclared). is_input l.role && is_clock l.holds) 0) has.leaves ∙ sym has.clock_inputs

  outputs_are : outputs net ≡ c.outputs
  outputs_are =
      numbers_taken output_number (λ (l : LeafDeclared). is_sink l.role && has_bits l.holds) m.port_leaves 0 net.leaves c.leaves is.count
      (λ x k l at lt.
      let own = leaf_plain x l at in
      output_given l.role l.width k (held_in (as_module c) x) (role_of c x) own.shaped own.width ((is.each x l at).port lt))
      (λ x k l at le. no_output l.role l.width k ((is.each x l at).inner le))
      ∙ ap (numbers_where (λ (l : LeafDeclared). is_sink l.role && has_bits l.holds) 0) has.leaves ∙ sym has.outputs

  clock_outputs_are : clock_outputs net ≡ c.clock_outputs
  clock_outputs_are =
      numbers_taken clock_output_number (λ (l : LeafDeclared). is_sink l.role && is_clock l.holds) m.port_leaves 0 net.leaves c.leaves is.count
      (λ x k l at lt. clock_output_given l.role l.width k (held_in (as_module c) x) (role_of c x) (leaf_plain x l at).shaped ((is.each x l at).port lt))
      (λ x k l at le. no_clock_output l.role l.width k ((is.each x l at).inner le))
      ∙ ap (numbers_where (λ (l : LeafDeclared). is_sink l.role && is_clock l.holds) 0) has.leaves ∙ sym has.clock_outputs

  flat_of : IsFlatOf c net
  flat_of = record {
    count = is.count;
    types = λ x l at. type_is l (held_in (as_module c) x) (is.each x l at).has_width;
    roles = λ x l at. (is.each x l at).role;
    inputs = inputs_are;
    clock_inputs = clocks_are;
    outputs = outputs_are;
    clock_outputs = clock_outputs_are;
    words = is.state;
    array_count = is.array_count;
    arrays = λ n a d at own. (is.arrays n a d at own).is;
    array_order = is.array_order;
  }

  pub plain_net : IsPlainNet c m.port_leaves net
  plain_net = record {
    flat = flat_of;
    named = record { paths = λ x l at. (is.each x l at).path; places = λ x l at. (is.each x l at).place };
    each = leaf_plain;
    outer = λ x l at. (is.each x l at).port;
    inner = λ x l at. (is.each x l at).inner;
    array_paths = λ n a d at own. (is.arrays n a d at own).path;
  }

  pub faithful : IsFaithful c net
  faithful = record { whole = is.whole; flat = flat_of; typed = plain.typed; memories = plain.memories; driven = plain.driven }
