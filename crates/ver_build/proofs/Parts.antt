-- The tree of a net in parts: ports, then registers, arrays, wires, assigns and blocks, those of leaves along the names in their order, and arrays and blocks in
-- that of the state.
use Rattle.std.proofs.Common.{◌≡◌, ℕ, List, [], ◌++◌, map, true, false, refl}
use Rattle.std.specs.Prelude.{Option, Some, None}
use Rattle.fir_net.specs.declared.reads.Read.{Read}
use Rattle.fir_net.specs.declared.leaf.Role.{Role}
use Rattle.fir_net.specs.declared.leaf.Role.TheVariants as role
use Rattle.fir_net.specs.declared.leaf.Leaf.{Leaf}
use Rattle.fir_net.specs.working.IsNet.{is_port, IsNet}
use Rattle.fir_net.specs.declared.net.FlatNet.{FlatNet}
use Rattle.fir_net_names.specs.declared.name_table.NameTable.{NameTable}
use Rattle.fir_net_names.specs.working.IsTable.{IsTable}
use Rattle.ver_ast.specs.declared.tree.Verilog.{Verilog}
use Rattle.ver_ast.specs.declared.tree.Port.{Port}
use Rattle.ver_ast.specs.declared.tree.Array.{Array as TreeArray}
use Rattle.ver_ast.specs.declared.tree.Net.{Net}
use Rattle.ver_ast.specs.declared.tree.Assign.{Assign}
use Rattle.ver_ast.specs.Nets.{AlwaysBlock}
use Rattle.ver_build.specs.declared.places.Places.{Places}
use Rattle.ver_build.specs.declared.right_sides.Inner.{Inner}
use Rattle.ver_build.specs.working.ArrayBlocks.{array_blocks, tree_arrays}
use Rattle.ver_build.specs.working.Built.{built, inners, items, leaf_port, port_of, leaf_reg, role_reg, leaf_assign, role_assign, leaf_clock_assign, role_clock_assign, word_blocks, inner_wire, inner_assign}
use Rattle.ver_build.proofs.Names.{zipped}
use Rattle.ver_build.proofs.OrderedLeaves.{ordered_names, ordered_leaves, OfPorts, OfWords, port_given, word_given}

port_inside : (r : Role) (w : ℕ) (name : List ℕ) → is_port r ≡ false → port_of r w name ≡ []
port_inside (role.Register d) w name e = refl
port_inside (role.Wire r) w name e = refl
port_inside (role.Reading r) w name e = refl
port_inside (role.Pipe q) w name e = refl
port_inside (role.ClockWire c) w name e = refl
port_inside _ w name e = absurd (cc)

-- ports are of ports, and so are the assigns of outputs and of clock outputs
pub ports_port : OfPorts leaf_port
ports_port = record { unnamed = λ l. refl; inside = inside }
  where
    inside : (l : Leaf) (n : Option (List ℕ)) → is_port l.role ≡ false → leaf_port l n ≡ []
    inside l None e = refl
    inside l (Some name) e = port_inside l.role l.width name e

assign_unnamed : (p : Places) (r : Role) (w : ℕ) → role_assign p r w None ≡ []
assign_unnamed p (role.Output r) w = refl
assign_unnamed p _ w = refl

assign_inside : (p : Places) (r : Role) (w : ℕ) (n : Option (List ℕ)) → is_port r ≡ false → role_assign p r w n ≡ []
assign_inside p (role.Register d) w n e = refl
assign_inside p (role.Wire r) w n e = refl
assign_inside p (role.Reading r) w n e = refl
assign_inside p (role.Pipe q) w n e = refl
assign_inside p (role.ClockWire c) w n e = refl
assign_inside p _ w n e = absurd (cc)

pub assigns_port : (p : Places) → OfPorts (leaf_assign p)
assigns_port p = record { unnamed = λ l. assign_unnamed p l.role l.width; inside = λ l n e. assign_inside p l.role l.width n e }

clock_unnamed : (t : NameTable) (p : Places) (r : Role) → role_clock_assign t p r None ≡ []
clock_unnamed t p (role.ClockOutput c) = refl
clock_unnamed t p _ = refl

clock_inside : (t : NameTable) (p : Places) (r : Role) (n : Option (List ℕ)) → is_port r ≡ false → role_clock_assign t p r n ≡ []
clock_inside t p (role.Register d) n e = refl
clock_inside t p (role.Wire r) n e = refl
clock_inside t p (role.Reading r) n e = refl
clock_inside t p (role.Pipe q) n e = refl
clock_inside t p (role.ClockWire c) n e = refl
clock_inside t p _ n e = absurd (cc)

pub clocks_port : (t : NameTable) (p : Places) → OfPorts (leaf_clock_assign t p)
clocks_port t p = record { unnamed = λ l. clock_unnamed t p l.role; inside = λ l n e. clock_inside t p l.role n e }

-- registers are of words
reg_ports : (r : Role) (w : ℕ) (n : Option (List ℕ)) → is_port r ≡ true → role_reg r w n ≡ []
reg_ports (role.Register d) w n e = absurd (cc)
reg_ports _ w n e = refl

pub regs_word : OfWords leaf_reg
regs_word = record { ports = λ l n e. reg_ports l.role l.width n e }

module _ (net : FlatNet) (t : NameTable) (p : Places) (order : List Read) where
  abbrev pub inners_of : List Inner
  inners_of = inners net t p order

  abbrev pub ports_of : List Port
  ports_of = zipped leaf_port (ordered_names net t) (ordered_leaves net)

  abbrev pub registers_of : List Net
  registers_of = zipped leaf_reg (ordered_names net t) (ordered_leaves net)

  abbrev pub arrays_of : List TreeArray
  arrays_of = tree_arrays net t

  abbrev pub wires_of : List Net
  wires_of = map inner_wire inners_of

  abbrev pub output_assigns : List Assign
  output_assigns = zipped (leaf_assign p) (ordered_names net t) (ordered_leaves net)

  abbrev pub assigns_of : List Assign
  assigns_of = map inner_assign inners_of ++ output_assigns

  abbrev pub clock_assigns_of : List Assign
  clock_assigns_of = zipped (leaf_clock_assign t p) (ordered_names net t) (ordered_leaves net)

  -- of registers
  abbrev pub blocks_of : List AlwaysBlock
  blocks_of = word_blocks net t p

  abbrev pub all_blocks_of : List AlwaysBlock
  all_blocks_of = blocks_of ++ array_blocks net t p

  abbrev pub in_parts : Verilog
  in_parts = record { name = t.circuit; ports = ports_of; items = items registers_of arrays_of wires_of assigns_of clock_assigns_of all_blocks_of; places = [] }

  pub built_in_parts : IsNet net → IsTable net t → built net t p order ≡ in_parts
  unfolding built
  built_in_parts whole table =
      rw (
        port_given net t whole table leaf_port ports_port,
        word_given net t whole table leaf_reg regs_word,
        port_given net t whole table (leaf_assign p) (assigns_port p),
        port_given net t whole table (leaf_clock_assign t p) (clocks_port t p),
      ) refl
