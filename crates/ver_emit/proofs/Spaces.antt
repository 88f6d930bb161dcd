-- In the layout of a tree whose names are names a space stands behind each slash.
-- A slash stands there as an operator between its operands alone.
use Rattle.std.proofs.Common.{ℕ, ◌-◌, List, [], ◌∷◌, ◌++◌, if◌then◌else◌, true, false, refl}
use Rattle.std.specs.Prelude.{Bool, codes, decimal, flat_map, nat_eq, Option, Some, None}
use Rattle.std.specs.List.{AllByRecursion}
use Rattle.fir_base.specs.Digits.{hexadecimal}
use Rattle.fir_base.specs.declared.direction.Direction.{Direction}
use Rattle.fir_base.specs.declared.direction.Direction.TheVariants.{Input, Output}
use Rattle.fir_base.proofs.Each.{all_left, all_right}
use Rattle.ver_words.specs.Names.{IsName}
use Rattle.ver_ast.specs.declared.tree.Verilog.{Verilog}
use Rattle.ver_ast.specs.declared.tree.Port.{Port}
use Rattle.ver_ast.specs.declared.tree.Edge.{Edge}
use Rattle.ver_ast.specs.declared.tree.Write.{Write}
use Rattle.ver_ast.specs.declared.tree.Item.{Item}
use Rattle.ver_ast.specs.declared.tree.Item.TheVariants as item
use Rattle.ver_ast.specs.declared.tree.Rhs.{Rhs}
use Rattle.ver_ast.specs.declared.tree.Rhs.TheVariants as rhs
use Rattle.ver_ast.specs.declared.tree.UnaryOp.{UnaryOp}
use Rattle.ver_ast.specs.declared.tree.UnaryOp.TheVariants as unary
use Rattle.ver_ast.specs.declared.tree.BinaryOp.{BinaryOp}
use Rattle.ver_ast.specs.declared.tree.BinaryOp.TheVariants as binary
use Rattle.ver_ast.specs.AtomForms.{constant_number}
use Rattle.ver_ast.specs.Atoms.{AtomTree, net, constant, bit_select, part_select, concat, repeat, AtomTrees, no_atoms, atom_before}
use Rattle.ver_ast.specs.Grammar.{direction_keyword, unary_sign, unsigned_op}
use Rattle.ver_ast.specs.Names.{atom_names, joined_names, rhs_atoms, rhs_names}
use Rattle.ver_ast.specs.ItemNames.{rhs_arrays, edge_names, write_names}
use Rattle.ver_ast.specs.Spells.{AreVerilogNames, HasItemNames, HasNames}
use Rattle.ver_emit.specs.Layout.{range_text, mark_text, port_text, next_port_text, ports_text, atom_text, next_atom_text, between_text, signed_text, rhs_text, edge_text, else_text, write_text, item_text, layout}
use Rattle.ver_emit.proofs.Slashes.{IsSpaced, spaced, spaced_joined, three_spaced, spaced_parts, name_spaced, decimal_spaced, hexadecimal_spaced}

range_spaced : (width : ℕ) → IsSpaced (range_text width)
range_spaced width =
    elim (nat_eq width 1) as (λ one. IsSpaced (if one then [] else codes "[" ++ decimal (width - 1) ++ codes ":0] ")) [
      | true ↦ spaced [] refl
      | false ↦ three_spaced (codes "[") (decimal (width - 1)) (codes ":0] ") (spaced _ refl) (decimal_spaced (width - 1)) (spaced _ refl)
    ]

direction_spaced : (d : Direction) → IsSpaced (direction_keyword d)
direction_spaced Input = spaced _ refl
direction_spaced Output = spaced _ refl

mark_spaced : (is_clock : Bool) → IsSpaced (mark_text is_clock)
mark_spaced true = spaced _ refl
mark_spaced false = spaced _ refl

port_spaced : (p : Port) → IsName p.name → IsSpaced (port_text p)
port_spaced p named =
    three_spaced (codes "\n  " ++ mark_text p.is_clock ++ direction_keyword p.direction ++ codes " ") (range_text p.width) p.name
    (three_spaced (codes "\n  " ++ mark_text p.is_clock) (direction_keyword p.direction) (codes " ")
    (spaced_joined (codes "\n  ") (mark_text p.is_clock) (spaced _ refl) (mark_spaced p.is_clock)) (direction_spaced p.direction) (spaced _ refl))
    (range_spaced p.width) (name_spaced p.name named)

next_ports_spaced : (ps : List Port) → AllByRecursion (λ p. IsName p.name) ps → AllByRecursion (λ p. IsSpaced (next_port_text p)) ps
next_ports_spaced [] named = tt
next_ports_spaced (p ∷ ps) named =
    (spaced_joined (codes ",") (port_text p) (spaced _ refl) (port_spaced p named.0), next_ports_spaced ps named.1)

ports_spaced : (ps : List Port) → AllByRecursion (λ p. IsName p.name) ps → IsSpaced (ports_text ps)
ports_spaced [] named = spaced [] refl
ports_spaced (p ∷ ps) named =
    three_spaced (port_text p) (flat_map next_port_text ps) (codes "\n") (port_spaced p named.0)
    (spaced_parts next_port_text ps (next_ports_spaced ps named.1)) (spaced _ refl)

mutual
  atom_spaced : (a : AtomTree) → AllByRecursion IsName (atom_names a) → IsSpaced (atom_text a)
  atom_spaced (net n) named = name_spaced n named.0
  atom_spaced (constant width value) named =
      three_spaced (decimal width) (codes "'h") (hexadecimal value) (decimal_spaced width) (spaced _ refl) (hexadecimal_spaced value)
  atom_spaced (bit_select n i) named =
      three_spaced (n ++ codes "[") (decimal i) (codes "]") (spaced_joined n (codes "[") (name_spaced n named.0) (spaced _ refl)) (decimal_spaced i)
      (spaced _ refl)
  atom_spaced (part_select n hi lo) named =
      three_spaced (n ++ codes "[" ++ decimal hi ++ codes ":") (decimal lo) (codes "]")
      (spaced_joined (n ++ codes "[" ++ decimal hi) (codes ":")
      (three_spaced n (codes "[") (decimal hi) (name_spaced n named.0) (spaced _ refl) (decimal_spaced hi)) (spaced _ refl)) (decimal_spaced lo)
      (spaced _ refl)
  atom_spaced (concat a more) named =
      three_spaced (codes "{" ++ atom_text a) (next_atom_text more) (codes "}")
      (spaced_joined (codes "{") (atom_text a) (spaced _ refl) (atom_spaced a (all_left _ (atom_names a) _ named)))
      (next_atoms_spaced more (all_right _ (atom_names a) _ named)) (spaced _ refl)
  atom_spaced (repeat count a) named =
      three_spaced (codes "{" ++ decimal count ++ codes "{") (atom_text a) (codes "}}")
      (three_spaced (codes "{") (decimal count) (codes "{") (spaced _ refl) (decimal_spaced count) (spaced _ refl)) (atom_spaced a named)
      (spaced _ refl)

  next_atoms_spaced : (more : AtomTrees) → AllByRecursion IsName (joined_names more) → IsSpaced (next_atom_text more)
  next_atoms_spaced no_atoms named = spaced [] refl
  next_atoms_spaced (atom_before a more) named =
      three_spaced (codes ", ") (atom_text a) (next_atom_text more) (spaced _ refl) (atom_spaced a (all_left _ (atom_names a) _ named))
      (next_atoms_spaced more (all_right _ (atom_names a) _ named))

atoms_spaced : (atoms : List AtomTree) → AllByRecursion IsName (flat_map atom_names atoms) → AllByRecursion (λ a. IsSpaced (atom_text a)) atoms
atoms_spaced [] named = tt
atoms_spaced (a ∷ more) named =
    (atom_spaced a (all_left _ (atom_names a) _ named), atoms_spaced more (all_right _ (atom_names a) _ named))

unary_spaced : (op : UnaryOp) → IsSpaced (unary_sign op ∷ [])
unary_spaced unary.Not = spaced _ refl
unary_spaced _ = spaced _ refl

binary_spaced : (op : BinaryOp) → IsSpaced (between_text op)
binary_spaced binary.Div = spaced _ refl
binary_spaced _ = spaced _ refl

signed_spaced : (a : AtomTree) → IsSpaced (atom_text a) → IsSpaced (signed_text a)
signed_spaced a h = three_spaced (codes "$signed(") (atom_text a) (codes ")") (spaced _ refl) h (spaced _ refl)

side_spaced : (r : Rhs) → AreVerilogNames (rhs_arrays r) → AllByRecursion (λ a. IsSpaced (atom_text a)) (rhs_atoms r) → IsSpaced (rhs_text r)
side_spaced (rhs.Atom a) arrays h = h.0
side_spaced (rhs.Unary op a) arrays h = spaced_joined (unary_sign op ∷ []) (atom_text a) (unary_spaced op) h.0
side_spaced (rhs.Binary a op b) arrays h = three_spaced (atom_text a) (between_text op) (atom_text b) h.0 (binary_spaced op) h.1.0
side_spaced (rhs.Signed a op b) arrays h =
    three_spaced (signed_text a) (between_text (unsigned_op op)) (signed_text b) (signed_spaced a h.0) (binary_spaced (unsigned_op op))
    (signed_spaced b h.1.0)
side_spaced (rhs.SignedShift a b) arrays h = three_spaced (signed_text a) (codes " >>> ") (atom_text b) (signed_spaced a h.0) (spaced _ refl) h.1.0
side_spaced (rhs.Conditional c a b) arrays h =
    three_spaced (atom_text c ++ codes " ? " ++ atom_text a) (codes " : ") (atom_text b)
    (three_spaced (atom_text c) (codes " ? ") (atom_text a) h.0 (spaced _ refl) h.1.0) (spaced _ refl) h.1.1.0
side_spaced (rhs.Word m a) arrays h =
    three_spaced (m ++ codes "[") (atom_text a) (codes "]") (spaced_joined m (codes "[") (name_spaced m arrays.0) (spaced _ refl)) h.0 (spaced _ refl)

-- a net behind the word that declares it
net_spaced : (word n : List ℕ) (width : ℕ) → IsSpaced word → IsName n → IsSpaced (word ++ range_text width ++ n ++ codes ";\n")
net_spaced word n width h named =
    spaced_joined (word ++ range_text width ++ n) (codes ";\n") (three_spaced word (range_text width) n h (range_spaced width) (name_spaced n named))
    (spaced _ refl)

edge_spaced : (o : Option Edge) → AreVerilogNames (edge_names o) → IsSpaced (edge_text o)
edge_spaced None named = spaced [] refl
edge_spaced (Some e) named = three_spaced (codes "posedge ") e.clock (codes " or ") (spaced _ refl) (name_spaced e.clock named.0) (spaced _ refl)

else_spaced : (o : Option Edge) → AreVerilogNames (edge_names o) → IsSpaced (else_text o)
else_spaced None named = spaced [] refl
else_spaced (Some e) named =
    three_spaced (codes " else " ++ e.target ++ codes " <= ") (atom_text e.source) (codes ";")
    (three_spaced (codes " else ") e.target (codes " <= ") (spaced _ refl) (name_spaced e.target named.1.0) (spaced _ refl)) (atom_spaced e.source named.1.1)
    (spaced _ refl)

write_spaced : (w : Write) → AreVerilogNames (write_names w) → IsSpaced (write_text w)
write_spaced w named =
    let front : AreVerilogNames (atom_names w.condition ++ atom_names w.index) = all_left IsName (atom_names w.condition ++ atom_names w.index) (atom_names w.source) named.1 in
    let condition = atom_spaced w.condition (all_left IsName (atom_names w.condition) (atom_names w.index) front) in
    let index = atom_spaced w.index (all_right IsName (atom_names w.condition) (atom_names w.index) front) in
    let source = atom_spaced w.source (all_right IsName (atom_names w.condition ++ atom_names w.index) (atom_names w.source) named.1) in
    three_spaced (codes " if (" ++ atom_text w.condition ++ codes ") " ++ w.array ++ codes "[" ++ atom_text w.index ++ codes "] <= ") (atom_text w.source) (codes ";")
    (three_spaced (codes " if (" ++ atom_text w.condition ++ codes ") " ++ w.array ++ codes "[") (atom_text w.index) (codes "] <= ")
    (three_spaced (codes " if (" ++ atom_text w.condition ++ codes ") ") w.array (codes "[")
    (three_spaced (codes " if (") (atom_text w.condition) (codes ") ") (spaced _ refl) condition (spaced _ refl)) (name_spaced w.array named.0) (spaced _ refl))
    index (spaced _ refl)) source (spaced _ refl)

writes_spaced : (ws : List Write) → AreVerilogNames (flat_map write_names ws) → AllByRecursion (λ w. IsSpaced (write_text w)) ws
writes_spaced [] named = tt
writes_spaced (w ∷ ws) named = (write_spaced w (all_left IsName (write_names w) (flat_map write_names ws) named), writes_spaced ws (all_right IsName (write_names w) (flat_map write_names ws) named))

item_spaced : (i : Item) → HasItemNames i → IsSpaced (item_text i)
item_spaced (item.Wire n) named = net_spaced (codes "  wire ") n.name n.width (spaced _ refl) named.0.0
item_spaced (item.Reg n) named = net_spaced (codes "  reg ") n.name n.width (spaced _ refl) named.0.0
item_spaced (item.Array a) named =
    three_spaced (codes "  reg " ++ range_text a.width ++ a.name ++ codes " [0:") (decimal a.last) (codes "];\n")
    (spaced_joined (codes "  reg " ++ range_text a.width ++ a.name) (codes " [0:")
    (three_spaced (codes "  reg ") (range_text a.width) a.name (spaced _ refl) (range_spaced a.width) (name_spaced a.name named.0.0)) (spaced _ refl))
    (decimal_spaced a.last) (spaced _ refl)
item_spaced (item.Assign a) named =
    three_spaced (codes "  assign " ++ a.target ++ codes " = ") (rhs_text a.rhs) (codes ";\n")
    (three_spaced (codes "  assign ") a.target (codes " = ") (spaced _ refl) (name_spaced a.target named.1.0) (spaced _ refl))
    (side_spaced a.rhs (all_left IsName (rhs_arrays a.rhs) (rhs_names a.rhs) named.1.1) (atoms_spaced (rhs_atoms a.rhs) (all_right IsName (rhs_arrays a.rhs) (rhs_names a.rhs) named.1.1))) (spaced _ refl)
item_spaced (item.Always b) named =
    three_spaced (codes "  always @(posedge " ++ b.clock ++ codes ") " ++ b.target ++ codes " <= ") (atom_text b.source) (codes ";\n")
    (three_spaced (codes "  always @(posedge " ++ b.clock ++ codes ") ") b.target (codes " <= ")
    (three_spaced (codes "  always @(posedge ") b.clock (codes ") ") (spaced _ refl) (name_spaced b.clock named.1.0) (spaced _ refl))
    (name_spaced b.target named.1.1.0) (spaced _ refl)) (atom_spaced b.source named.1.1.1) (spaced _ refl)
item_spaced (item.Resetting b) named =
    let reset = name_spaced b.reset named.1.0 in
    let tested = name_spaced b.tested named.1.1.0 in
    let edges = three_spaced (codes "  always @(" ++ edge_text b.edge ++ codes "posedge ") b.reset (codes ") if (")
    (three_spaced (codes "  always @(") (edge_text b.edge) (codes "posedge ") (spaced _ refl) (edge_spaced b.edge named.1.1.1.1) (spaced _ refl)) reset (spaced _ refl) in
    let written = three_spaced (codes "  always @(" ++ edge_text b.edge ++ codes "posedge " ++ b.reset ++ codes ") if (" ++ b.tested ++ codes ") ") b.target (codes " <= ")
    (three_spaced (codes "  always @(" ++ edge_text b.edge ++ codes "posedge " ++ b.reset ++ codes ") if (") b.tested (codes ") ") edges tested (spaced _ refl))
    (name_spaced b.target named.1.1.1.0) (spaced _ refl) in
    let value = atom_spaced (constant b.value.width (constant_number b.value)) tt in
    three_spaced
    (codes "  always @(" ++ edge_text b.edge ++ codes "posedge " ++ b.reset ++ codes ") if (" ++ b.tested ++ codes ") " ++ b.target ++ codes " <= "
    ++ atom_text (constant b.value.width (constant_number b.value)) ++ codes ";") (else_text b.edge) (codes "\n")
    (three_spaced
    (codes "  always @(" ++ edge_text b.edge ++ codes "posedge " ++ b.reset ++ codes ") if (" ++ b.tested ++ codes ") " ++ b.target ++ codes " <= ")
    (atom_text (constant b.value.width (constant_number b.value))) (codes ";") written value (spaced _ refl)) (else_spaced b.edge named.1.1.1.1) (spaced _ refl)
item_spaced (item.Writing b) named =
    three_spaced (codes "  always @(posedge " ++ b.clock ++ codes ") begin") (flat_map write_text b.writes) (codes " end\n")
    (three_spaced (codes "  always @(posedge ") b.clock (codes ") begin") (spaced _ refl) (name_spaced b.clock named.1.0) (spaced _ refl))
    (spaced_parts write_text b.writes (writes_spaced b.writes named.1.1)) (spaced _ refl)

items_spaced : (is : List Item) → AllByRecursion HasItemNames is → AllByRecursion (λ i. IsSpaced (item_text i)) is
items_spaced [] named = tt
items_spaced (i ∷ is) named = (item_spaced i named.0, items_spaced is named.1)

pub layout_spaced : (v : Verilog) → HasNames v → IsSpaced (layout v)
unfolding layout
layout_spaced v named =
    three_spaced (codes "module " ++ v.name ++ codes "(" ++ ports_text v.ports ++ codes ");\n") (flat_map item_text v.items) (codes "endmodule\n")
    (three_spaced (codes "module " ++ v.name ++ codes "(") (ports_text v.ports) (codes ");\n")
    (three_spaced (codes "module ") v.name (codes "(") (spaced _ refl) (name_spaced v.name named.of_module) (spaced _ refl))
    (ports_spaced v.ports named.of_ports) (spaced _ refl)) (spaced_parts item_text v.items (items_spaced v.items named.of_items)) (spaced _ refl)
