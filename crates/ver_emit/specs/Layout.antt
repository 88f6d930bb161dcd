-- The layout of the emitted text, as a function of the tree.
-- A port a line with two spaces, then an item a line with two spaces; single spaces between words and behind each comma of a concatenation, none
-- inside a range, a select or a constant, before or behind a brace, or before a semicolon; a block of writes stands on one line.
use Rattle.std.specs.Prelude.{ℕ, ◌-◌, Bool, List, [], ◌∷◌, ◌++◌, flat_map, codes, decimal, nat_eq, if◌then◌else◌, Option, Some, None}
use Rattle.ver_ast.specs.declared.tree.Verilog.{Verilog}
use Rattle.fir_base.specs.Digits.{hexadecimal}
use Rattle.ver_ast.specs.declared.tree.Port.{Port}
use Rattle.ver_ast.specs.declared.tree.Edge.{Edge}
use Rattle.ver_ast.specs.declared.tree.Write.{Write}
use Rattle.ver_ast.specs.declared.tree.Item.{Item}
use Rattle.ver_ast.specs.declared.tree.Item.TheVariants as item
use Rattle.ver_ast.specs.declared.tree.Rhs.{Rhs}
use Rattle.ver_ast.specs.declared.tree.Rhs.TheVariants as rhs
use Rattle.ver_ast.specs.declared.tree.BinaryOp.{BinaryOp}
use Rattle.ver_ast.specs.declared.tree.BinaryOp.TheVariants as binary
use Rattle.ver_ast.specs.AtomForms.{constant_number}
use Rattle.ver_ast.specs.Atoms.{AtomTree, net, constant, bit_select, part_select, concat, repeat, AtomTrees, no_atoms, atom_before}
use Rattle.ver_ast.specs.Grammar.{direction_keyword, unary_sign, unsigned_op}

-- the range of a width, with the space behind it; a width of 1 has none
abbrev pub range_text : ℕ → List ℕ
range_text width = if nat_eq width 1 then [] else codes "[" ++ decimal (width - 1) ++ codes ":0] "

-- a clock is marked
abbrev pub mark_text : Bool → List ℕ
mark_text is_clock = if is_clock then codes "(* clock *) " else []

abbrev pub port_text : Port → List ℕ
port_text p = codes "\n  " ++ mark_text p.is_clock ++ direction_keyword p.direction ++ codes " " ++ range_text p.width ++ p.name

-- a port behind another
abbrev pub next_port_text : Port → List ℕ
next_port_text p = codes "," ++ port_text p

abbrev pub ports_text : List Port → List ℕ
ports_text [] = []
ports_text (p ∷ ps) = port_text p ++ flat_map next_port_text ps ++ codes "\n"

abbrev mutual
  pub atom_text : AtomTree → List ℕ
  atom_text (net n) = n
  atom_text (constant width value) = decimal width ++ codes "'h" ++ hexadecimal value
  atom_text (bit_select n i) = n ++ codes "[" ++ decimal i ++ codes "]"
  atom_text (part_select n hi lo) = n ++ codes "[" ++ decimal hi ++ codes ":" ++ decimal lo ++ codes "]"
  atom_text (concat a more) = codes "{" ++ atom_text a ++ next_atom_text more ++ codes "}"
  atom_text (repeat count a) = codes "{" ++ decimal count ++ codes "{" ++ atom_text a ++ codes "}}"

  -- operands behind another
  pub next_atom_text : AtomTrees → List ℕ
  next_atom_text no_atoms = []
  next_atom_text (atom_before a more) = codes ", " ++ atom_text a ++ next_atom_text more

abbrev pub binary_text : BinaryOp → List ℕ
binary_text binary.Add = codes "+"
binary_text binary.Sub = codes "-"
binary_text binary.Mul = codes "*"
binary_text binary.Div = codes "/"
binary_text binary.Rem = codes "%"
binary_text binary.And = codes "&"
binary_text binary.Or = codes "|"
binary_text binary.Xor = codes "^"
binary_text binary.Shl = codes "<<"
binary_text binary.Shr = codes ">>"
binary_text binary.Eq = codes "=="
binary_text binary.Neq = codes "!="
binary_text binary.Lt = codes "<"
binary_text binary.Leq = codes "<="
binary_text binary.Gt = codes ">"
binary_text binary.Geq = codes ">="

-- an operator with the spaces round it
abbrev pub between_text : BinaryOp → List ℕ
between_text op = codes " " ++ binary_text op ++ codes " "

abbrev pub signed_text : AtomTree → List ℕ
signed_text a = codes "$signed(" ++ atom_text a ++ codes ")"

abbrev pub rhs_text : Rhs → List ℕ
rhs_text (rhs.Atom a) = atom_text a
rhs_text (rhs.Unary op a) = unary_sign op ∷ atom_text a
rhs_text (rhs.Binary a op b) = atom_text a ++ between_text op ++ atom_text b
rhs_text (rhs.Signed a op b) = signed_text a ++ between_text (unsigned_op op) ++ signed_text b
rhs_text (rhs.SignedShift a b) = signed_text a ++ codes " >>> " ++ atom_text b
rhs_text (rhs.Conditional c a b) = atom_text c ++ codes " ? " ++ atom_text a ++ codes " : " ++ atom_text b
rhs_text (rhs.Word m a) = m ++ codes "[" ++ atom_text a ++ codes "]"

-- the clock before the reset
abbrev pub edge_text : Option Edge → List ℕ
edge_text None = []
edge_text (Some e) = codes "posedge " ++ e.clock ++ codes " or "

-- what is written where the reset is not 1
abbrev pub else_text : Option Edge → List ℕ
else_text None = []
else_text (Some e) = codes " else " ++ e.target ++ codes " <= " ++ atom_text e.source ++ codes ";"

abbrev pub write_text : Write → List ℕ
write_text w = codes " if (" ++ atom_text w.condition ++ codes ") " ++ w.array ++ codes "[" ++ atom_text w.index ++ codes "] <= " ++ atom_text w.source ++ codes ";"

abbrev pub item_text : Item → List ℕ
item_text (item.Wire n) = codes "  wire " ++ range_text n.width ++ n.name ++ codes ";\n"
item_text (item.Reg n) = codes "  reg " ++ range_text n.width ++ n.name ++ codes ";\n"
item_text (item.Assign a) = codes "  assign " ++ a.target ++ codes " = " ++ rhs_text a.rhs ++ codes ";\n"
item_text (item.Always b) = codes "  always @(posedge " ++ b.clock ++ codes ") " ++ b.target ++ codes " <= " ++ atom_text b.source ++ codes ";\n"
item_text (item.Array a) = codes "  reg " ++ range_text a.width ++ a.name ++ codes " [0:" ++ decimal a.last ++ codes "];\n"
item_text (item.Resetting b) =
    codes "  always @(" ++ edge_text b.edge ++ codes "posedge " ++ b.reset ++ codes ") if (" ++ b.tested ++ codes ") " ++ b.target ++ codes " <= "
    ++ atom_text (constant b.value.width (constant_number b.value)) ++ codes ";" ++ else_text b.edge ++ codes "\n"
item_text (item.Writing b) = codes "  always @(posedge " ++ b.clock ++ codes ") begin" ++ flat_map write_text b.writes ++ codes " end\n"

unfoldable pub layout : Verilog → List ℕ
layout v = codes "module " ++ v.name ++ codes "(" ++ ports_text v.ports ++ codes ");\n" ++ flat_map item_text v.items ++ codes "endmodule\n"
