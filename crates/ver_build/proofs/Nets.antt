-- What the tree of a net declares and drives, from its parts.
-- Its nets are the named leaves that are no clocks, the ports before the registers, and then those of operations.
use Rattle.std.proofs.Common.{◌≡◌, ℕ, List, [], ◌∷◌, ◌++◌, Bool, true, false, refl, sym, ap, ◌∙◌, append_assoc, append-nil}
use Rattle.std.specs.Prelude.{map, flat_map, Option, Some, None}
use Rattle.std.proofs.lemmas.List.{map-append}
use Rattle.std.proofs.lemmas.List.Concat.{flat_map-append}
use Rattle.std.proofs.lemmas.Simd.{map-map}
use Rattle.fir_net.specs.declared.reads.Read.{Read}
use Rattle.fir_net.specs.declared.leaf.Role.{Role}
use Rattle.fir_net.specs.declared.leaf.Role.TheVariants as role
use Rattle.fir_net.specs.declared.leaf.Leaf.{Leaf}
use Rattle.fir_net.specs.declared.net.FlatNet.{FlatNet}
use Rattle.fir_net_names.specs.declared.name_table.NameTable.{NameTable}
use Rattle.fir_net.specs.working.IsNet.{is_port, IsNet}
use Rattle.fir_net_names.specs.working.IsTable.{IsTable}
use Rattle.fir_net_names.specs.working.LeafNamed.{somes, with_some}
use Rattle.ver_ast.specs.declared.tree.Net.{Net}
use Rattle.ver_ast.specs.declared.tree.Port.{Port}
use Rattle.ver_ast.specs.declared.tree.Resetting.{Resetting}
use Rattle.ver_ast.specs.Nets.{SizedNet, port_net, input_net, output_net, input_clock, output_clock, output_clocks, item_net, input_nets, output_nets, clocks, port_nets, wires, regs, nets, arrays, blocks, block_reset, resets, names_of}
use Rattle.ver_build.specs.declared.places.Places.{Places}
use Rattle.ver_build.specs.declared.right_sides.Inner.{Inner}
use Rattle.ver_build.specs.working.Built.{inners, leaf_port, port_of, leaf_reg, role_reg, inner_wire}
use Rattle.ver_build.specs.working.ArrayBlocks.{array_blocks}
use Rattle.ver_build.specs.Ports.{port_names}
use Rattle.ver_build.proofs.StateArrays.{no_array_part, state_variables, variables_are}
use Rattle.ver_build.proofs.Names.{NameList, Each, zipped, map_zipped, flat_zipped}
use Rattle.ver_build.proofs.Premises.{Premises, LeafNamed, RoleNamed, no_pipe, role_named}
use Rattle.ver_build.proofs.TableLeaves.{leaf_named}
use Rattle.ver_build.proofs.OrderedLeaves.{ordered_names, ordered_leaves, ordered_each, ordered_first, ordered_named}
use Rattle.ver_build.proofs.Parts.{registers_of, arrays_of, wires_of, assigns_of, clock_assigns_of, blocks_of, all_blocks_of, in_parts}
use Rattle.ver_build.proofs.ItemLists.{net_sized, registers_among, wires_among, nets_among, arrays_among, blocks_among}
use Rattle.fir_net.specs.working.Counted.{is_register}
use Rattle.ver_build.proofs.LeafKinds.{is_input, is_clock_input, is_clock_output, is_output, is_pipe, is_signal, is_net, name_if, sized_if, picked, picked_sized, picked_names, no_size, no_name, ports_then_inside}

abbrev pub inner_sized : Inner → SizedNet
inner_sized i = (i.name, i.width)

abbrev pub inner_name : Inner → List ℕ
inner_name i = i.name

-- the nets of the tree
abbrev pub sizes : FlatNet → NameTable → Places → List Read → List SizedNet
sizes net t p order = picked_sized is_net (ordered_names net t) (ordered_leaves net) ++ map inner_sized (inners net t p order)

net_names : (ns : List Net) → names_of (map net_sized ns) ≡ map (λ (n : Net). n.name) ns
net_names [] = refl
net_names (n ∷ ns) = ap (λ names. n.name ∷ names) (net_names ns)

-- what a port of a leaf with a name gives
signal_part : (r : Role) (w : ℕ) (name : List ℕ) → flat_map port_net (port_of r w name) ≡ sized_if (is_signal r) w (Some name)
signal_part role.Input w name = refl
signal_part role.Clock w name = refl
signal_part (role.Output r) w name = refl
signal_part (role.ClockOutput c) w name = refl
signal_part _ w name = refl

input_part : (r : Role) (w : ℕ) (name : List ℕ) → flat_map (λ p. input_net p.direction p) (port_of r w name) ≡ sized_if (is_input r) w (Some name)
input_part role.Input w name = refl
input_part role.Clock w name = refl
input_part (role.Output r) w name = refl
input_part (role.ClockOutput c) w name = refl
input_part _ w name = refl

output_part : (r : Role) (w : ℕ) (name : List ℕ) → flat_map (λ p. output_net p.direction p) (port_of r w name) ≡ sized_if (is_output r) w (Some name)
output_part role.Input w name = refl
output_part role.Clock w name = refl
output_part (role.Output r) w name = refl
output_part (role.ClockOutput c) w name = refl
output_part _ w name = refl

clock_part : (r : Role) (w : ℕ) (name : List ℕ) → flat_map (λ p. input_clock p.direction p) (port_of r w name) ≡ name_if (is_clock_input r) (Some name)
clock_part role.Input w name = refl
clock_part role.Clock w name = refl
clock_part (role.Output r) w name = refl
clock_part (role.ClockOutput c) w name = refl
clock_part _ w name = refl

name_part : (r : Role) (w : ℕ) (name : List ℕ) → map (λ (p : Port). p.name) (port_of r w name) ≡ name_if (is_port r) (Some name)
name_part role.Input w name = refl
name_part role.Clock w name = refl
name_part (role.Output r) w name = refl
name_part (role.ClockOutput c) w name = refl
name_part _ w name = refl

clocked : (l : Leaf) (n : Option (List ℕ)) → flat_map (λ p. input_clock p.direction p) (leaf_port l n) ≡ name_if (is_clock_input l.role) n
clocked l None = sym (no_name (is_clock_input l.role))
clocked l (Some name) = clock_part l.role l.width name

clock_output_part : (r : Role) (w : ℕ) (name : List ℕ)
    → flat_map (λ p. output_clock p.direction p) (port_of r w name) ≡ name_if (is_clock_output r) (Some name)
clock_output_part role.Input w name = refl
clock_output_part role.Clock w name = refl
clock_output_part (role.Output r) w name = refl
clock_output_part (role.ClockOutput c) w name = refl
clock_output_part _ w name = refl

clock_outputs : (l : Leaf) (n : Option (List ℕ)) → flat_map (λ p. output_clock p.direction p) (leaf_port l n) ≡ name_if (is_clock_output l.role) n
clock_outputs l None = sym (no_name (is_clock_output l.role))
clock_outputs l (Some name) = clock_output_part l.role l.width name

named : (l : Leaf) (n : Option (List ℕ)) → map (λ (p : Port). p.name) (leaf_port l n) ≡ name_if (is_port l.role) n
named l None = sym (no_name (is_port l.role))
named l (Some name) = name_part l.role l.width name

register_part : (r : Role) (w : ℕ) (n : Option (List ℕ)) → map net_sized (role_reg r w n) ≡ sized_if (is_register r) w n
register_part (role.Register r) w None = refl
register_part (role.Register r) w (Some name) = refl
register_part _ w n = refl

named_first : (n : Option (List ℕ)) (names : List (List ℕ)) → with_some n [] ++ names ≡ with_some n names
named_first None names = refl
named_first (Some name) names = refl

names_along : {A : Type 0} → (P : A → Option (List ℕ) → Type 0) (names : NameList) (xs : List A) → Each P names xs
    → zipped (λ (x : A) n. with_some n []) names xs ≡ somes names
unfolding zipped
names_along P [] [] h = refl
names_along P [] (x ∷ xs) h = absurd h
names_along P (n ∷ names) [] h = absurd h
names_along P (n ∷ names) (x ∷ xs) h = named_first n _ ∙ ap (with_some n) (names_along P names xs h.1)

-- ports of bits, then registers
port_bits : (r : Role) → is_port r ≡ true → (is_signal r ≡ is_net r) × (is_register r ≡ false)
port_bits role.Input e = (refl, refl)
port_bits role.Clock e = (refl, refl)
port_bits (role.Output r) e = (refl, refl)
port_bits (role.ClockOutput c) e = (refl, refl)
port_bits _ e = absurd (cc)

inside_bits : (r : Role) → is_port r ≡ false → (is_signal r ≡ false) × (is_register r ≡ is_net r)
inside_bits (role.Register r) e = (refl, refl)
inside_bits (role.Wire r) e = (refl, refl)
inside_bits (role.Reading r) e = (refl, refl)
inside_bits (role.Pipe q) e = (refl, refl)
inside_bits (role.ClockWire c) e = (refl, refl)
inside_bits _ e = absurd (cc)

port_name : (r : Role) (n : Option (List ℕ)) → is_port r ≡ true → (name_if (is_port r) n ≡ with_some n []) × (name_if (is_register r) n ≡ [])
port_name role.Input n e = (refl, refl)
port_name role.Clock n e = (refl, refl)
port_name (role.Output r) n e = (refl, refl)
port_name (role.ClockOutput c) n e = (refl, refl)
port_name _ n e = absurd (cc)

inside_name : (r : Role) (w : ℕ) (n : Option (List ℕ)) → RoleNamed r w n → is_pipe r ≡ false → is_port r ≡ false
    → (name_if (is_port r) n ≡ []) × (name_if (is_register r) n ≡ with_some n [])
inside_name (role.Register r) w n h plain e = (refl, refl)
inside_name (role.Wire r) w None h plain e = (refl, refl)
inside_name (role.Wire r) w (Some name) h plain e = absurd (cc)
inside_name (role.Reading r) w None h plain e = (refl, refl)
inside_name (role.Reading r) w (Some name) h plain e = absurd (cc)
inside_name (role.ClockWire c) w None h plain e = (refl, refl)
inside_name (role.ClockWire c) w (Some name) h plain e = absurd (cc)
inside_name _ w n h plain e = absurd (cc)

module _ (net : FlatNet) (t : NameTable) (p : Places) (order : List Read) where
  sized_ports : (q : Role → Bool) (f : Port → List SizedNet)
      → ((r : Role) (w : ℕ) (name : List ℕ) → flat_map f (port_of r w name) ≡ sized_if (q r) w (Some name))
      → flat_map f (in_parts net t p order).ports ≡ picked_sized q (ordered_names net t) (ordered_leaves net)
  sized_ports q f e = flat_zipped f leaf_port (λ l n. sized_if (q l.role) l.width n) part (ordered_names net t) (ordered_leaves net)
    where
      part : (l : Leaf) (n : Option (List ℕ)) → flat_map f (leaf_port l n) ≡ sized_if (q l.role) l.width n
      part l None = sym (no_size (q l.role) l.width)
      part l (Some name) = e l.role l.width name

  pub signals_sized : port_nets (in_parts net t p order) ≡ picked_sized is_signal (ordered_names net t) (ordered_leaves net)
  signals_sized = sized_ports is_signal port_net signal_part

  pub inputs_sized : input_nets (in_parts net t p order) ≡ picked_sized is_input (ordered_names net t) (ordered_leaves net)
  inputs_sized = sized_ports is_input (λ p. input_net p.direction p) input_part

  pub outputs_sized : output_nets (in_parts net t p order) ≡ picked_sized is_output (ordered_names net t) (ordered_leaves net)
  outputs_sized = sized_ports is_output (λ p. output_net p.direction p) output_part

  pub clocks_are : clocks (in_parts net t p order) ≡ picked is_clock_input (ordered_names net t) (ordered_leaves net)
  clocks_are = flat_zipped (λ (p : Port). input_clock p.direction p) leaf_port (λ l n. name_if (is_clock_input l.role) n) clocked (ordered_names net t) (ordered_leaves net)

  pub output_clocks_are : output_clocks (in_parts net t p order) ≡ picked is_clock_output (ordered_names net t) (ordered_leaves net)
  output_clocks_are =
      flat_zipped (λ (p : Port). output_clock p.direction p) leaf_port (λ l n. name_if (is_clock_output l.role) n) clock_outputs (ordered_names net t)
      (ordered_leaves net)

  pub port_names_are : port_names (in_parts net t p order) ≡ picked is_port (ordered_names net t) (ordered_leaves net)
  port_names_are = map_zipped (λ (p : Port). p.name) leaf_port (λ l n. name_if (is_port l.role) n) named (ordered_names net t) (ordered_leaves net)

  pub registers_sized : regs (in_parts net t p order) ≡ picked_sized is_register (ordered_names net t) (ordered_leaves net)
  registers_sized =
      registers_among (registers_of net t p order) (arrays_of net t p order) (wires_of net t p order) (assigns_of net t p order) (clock_assigns_of net t p order) (all_blocks_of net t p order)
      ∙ map_zipped net_sized leaf_reg (λ l n. sized_if (is_register l.role) l.width n) (λ l n. register_part l.role l.width n) (ordered_names net t) (ordered_leaves net)

  pub wires_sized : wires (in_parts net t p order) ≡ map inner_sized (inners net t p order)
  wires_sized =
      wires_among (registers_of net t p order) (arrays_of net t p order) (wires_of net t p order) (assigns_of net t p order) (clock_assigns_of net t p order) (all_blocks_of net t p order)
      ∙ map-map net_sized inner_wire (inners net t p order)

  pub arrays_are : IsNet net → IsTable net t → arrays (in_parts net t p order) ≡ state_variables net t
  arrays_are whole table =
      arrays_among (registers_of net t p order) (arrays_of net t p order) (wires_of net t p order) (assigns_of net t p order) (clock_assigns_of net t p order)
      (all_blocks_of net t p order)
      ∙ variables_are net t whole table

  pub blocks_are : blocks (in_parts net t p order) ≡ all_blocks_of net t p order
  blocks_are = blocks_among (registers_of net t p order) (arrays_of net t p order) (wires_of net t p order) (assigns_of net t p order) (clock_assigns_of net t p order) (all_blocks_of net t p order)

  -- the asynchronous blocks are those of registers
  pub resets_are : resets (in_parts net t p order) ≡ flat_map block_reset (blocks_of net t p order)
  resets_are =
      ap (flat_map block_reset) blocks_are ∙ flat_map-append block_reset (blocks_of net t p order) (array_blocks net t p)
      ∙ ap (λ (bs : List Resetting). flat_map block_reset (blocks_of net t p order) ++ bs) (no_array_part net t p block_reset (λ b. refl))
      ∙ append-nil (flat_map block_reset (blocks_of net t p order))

  -- the names of the nets
  pub sizes_named : names_of (sizes net t p order) ≡ picked is_net (ordered_names net t) (ordered_leaves net) ++ map inner_name (inners net t p order)
  sizes_named =
      map-append (λ (s : SizedNet). s.0) (picked_sized is_net (ordered_names net t) (ordered_leaves net)) (map inner_sized (inners net t p order))
      ∙ rw (picked_names is_net (ordered_names net t) (ordered_leaves net), map-map (λ (s : SizedNet). s.0) inner_sized (inners net t p order)) refl

  module _ (is : Premises net t p order) where
    nets_together : picked_sized is_signal (ordered_names net t) (ordered_leaves net) ++ picked_sized is_register (ordered_names net t) (ordered_leaves net) ≡ picked_sized is_net (ordered_names net t) (ordered_leaves net)
    nets_together =
        ports_then_inside LeafNamed (λ l n. sized_if (is_signal l.role) l.width n) (λ l n. sized_if (is_register l.role) l.width n)
        (λ l n. sized_if (is_net l.role) l.width n)
        (λ l n h e. let k = port_bits l.role e in (ap (λ b. sized_if b l.width n) k.0, ap (λ b. sized_if b l.width n) k.1))
        (λ l n h e. let k = inside_bits l.role e in (ap (λ b. sized_if b l.width n) k.0, ap (λ b. sized_if b l.width n) k.1))
        (ordered_names net t) (ordered_leaves net) (ordered_named net t is.whole is.table) (ordered_first net t is.whole is.table)

    abbrev Plain : Leaf → Option (List ℕ) → Type 0
    Plain l n = LeafNamed l n × (is_pipe l.role ≡ false)

    plain : Each Plain (ordered_names net t) (ordered_leaves net)
    plain =
        ordered_each net t is.whole is.table Plain (λ k l at. (leaf_named net is.whole t is.table k l at, no_pipe net is.pipes k l at))

    names_together : picked is_port (ordered_names net t) (ordered_leaves net) ++ picked is_register (ordered_names net t) (ordered_leaves net) ≡ somes (ordered_names net t)
    names_together =
        ports_then_inside Plain (λ l n. name_if (is_port l.role) n) (λ l n. name_if (is_register l.role) n) (λ l n. with_some n [])
        (λ l n h e. port_name l.role n e) (λ l n h e. inside_name l.role l.width n (role_named l n h.0) h.1 e)
        (ordered_names net t) (ordered_leaves net) plain (ordered_first net t is.whole is.table)
        ∙ names_along LeafNamed (ordered_names net t) (ordered_leaves net) (ordered_named net t is.whole is.table)

    pub nets_sized : nets (in_parts net t p order) ≡ sizes net t p order
    nets_sized =
        let rs = registers_among (registers_of net t p order) (arrays_of net t p order) (wires_of net t p order) (assigns_of net t p order) (clock_assigns_of net t p order) (all_blocks_of net t p order) in
        let ws = wires_among (registers_of net t p order) (arrays_of net t p order) (wires_of net t p order) (assigns_of net t p order) (clock_assigns_of net t p order) (all_blocks_of net t p order) in
        let inside : flat_map item_net (in_parts net t p order).items ≡ regs (in_parts net t p order) ++ wires (in_parts net t p order) =
        nets_among (registers_of net t p order) (arrays_of net t p order) (wires_of net t p order) (assigns_of net t p order) (clock_assigns_of net t p order) (all_blocks_of net t p order) ∙ rw (rs, ws) refl in
        ap (λ ns. port_nets (in_parts net t p order) ++ ns) inside
        ∙ rw (signals_sized, registers_sized, wires_sized)
        (sym (append_assoc (picked_sized is_signal (ordered_names net t) (ordered_leaves net)) (picked_sized is_register (ordered_names net t) (ordered_leaves net))
        (map inner_sized (inners net t p order)))
        ∙ ap (λ ns. ns ++ map inner_sized (inners net t p order)) nets_together)

    -- the names of the nets: those of ports, of registers and of wires
    pub nets_by_part : names_of (sizes net t p order) ≡ names_of (port_nets (in_parts net t p order)) ++
        (map (λ (n : Net). n.name) (registers_of net t p order) ++ map (λ (n : Net). n.name) (wires_of net t p order))
    nets_by_part =
        let name = λ (s : SizedNet). s.0 in
        let rs = map net_sized (registers_of net t p order) in
        let ws = map net_sized (wires_of net t p order) in
        ap names_of (sym nets_sized)
        ∙ ap (λ ns. names_of (port_nets (in_parts net t p order) ++ ns))
        (nets_among (registers_of net t p order) (arrays_of net t p order) (wires_of net t p order) (assigns_of net t p order) (clock_assigns_of net t p order) (all_blocks_of net t p order))
        ∙ map-append name (port_nets (in_parts net t p order)) (rs ++ ws)
        ∙ ap (λ ns. names_of (port_nets (in_parts net t p order)) ++ ns)
        (map-append name rs ws ∙ rw (net_names (registers_of net t p order), net_names (wires_of net t p order)) refl)

    pub leaf_names_are : port_names (in_parts net t p order) ++ names_of (regs (in_parts net t p order)) ≡ somes (ordered_names net t)
    leaf_names_are = rw (port_names_are, registers_sized, picked_names is_register (ordered_names net t) (ordered_leaves net)) names_together
