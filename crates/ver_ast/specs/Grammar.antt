-- The grammar: the tokens of a tree (IEEE 1364-2005, Annex A.1 to A.8, cut to the written subset).
--   module = "module" name "(" [ port { "," port } ] ")" ";" item* "endmodule"
--   port   = [ "(*" "clock" "*)" ] ("input" | "output") [range] name
--   item   = "wire" [range] name ";" | "reg" [range] name [ "[" "0" ":" num "]" ] ";" | "assign" name "=" rhs ";"
--          | "always" "@" "(" "posedge" name ")" name "<=" atom ";"
--          | "always" "@" "(" "posedge" name "or" "posedge" name ")" "if" "(" name ")" name "<=" constant ";" "else" name "<=" atom ";"
--          | "always" "@" "(" "posedge" name ")" "if" "(" name ")" name "<=" constant ";"
--          | "always" "@" "(" "posedge" name ")" "begin" { "if" "(" atom ")" name "[" atom "]" "<=" atom ";" } "end"
--   range  = "[" num ":" "0" "]"            without a range the width is 1
--   rhs    = atom | ("~" | "&" | "|" | "^") atom | atom bin atom | signed sbin signed | signed ">>>" atom | atom "?" atom ":" atom | name "[" atom "]"
--   bin    = "+" | "-" | "*" | "/" | "%" | "&" | "|" | "^" | "<<" | ">>" | "==" | "!=" | "<" | "<=" | ">" | ">="
--   signed = "$signed" "(" atom ")"          sbin = "/" | "%" | "<" | "<=" | ">" | ">="
--   atom   = name | constant | name "[" num "]" | name "[" num ":" num "]" | "{" atom { "," atom } "}" | "{" num "{" atom "}" "}"
-- The 0 of a range and of a depth is the one digit; a num is any digits.
use Rattle.std.specs.Prelude.{ℕ, ◌-◌, Bool, List, [], ◌∷◌, ◌++◌, flat_map, codes, nat_eq, if◌then◌else◌, Option, Some, None}
use Rattle.fir_base.specs.declared.direction.Direction.{Direction}
use Rattle.fir_base.specs.declared.direction.Direction.TheVariants.{Input, Output}
use Rattle.ver_ast.specs.declared.tree.Verilog.{Verilog}
use Rattle.ver_ast.specs.declared.tree.Port.{Port}
use Rattle.ver_ast.specs.declared.tree.Edge.{Edge}
use Rattle.ver_ast.specs.declared.tree.Write.{Write}
use Rattle.ver_ast.specs.declared.tree.Item.{Item}
use Rattle.ver_ast.specs.declared.tree.Item.TheVariants as item
use Rattle.ver_ast.specs.declared.tree.Rhs.{Rhs}
use Rattle.ver_ast.specs.declared.tree.Rhs.TheVariants as rhs
use Rattle.ver_ast.specs.declared.tree.UnaryOp.{UnaryOp}
use Rattle.ver_ast.specs.declared.tree.UnaryOp.TheVariants as unary
use Rattle.ver_ast.specs.declared.tree.BinaryOp.{BinaryOp}
use Rattle.ver_ast.specs.declared.tree.BinaryOp.TheVariants as binary
use Rattle.ver_ast.specs.declared.tree.SignedOp.{SignedOp}
use Rattle.ver_ast.specs.declared.tree.SignedOp.TheVariants as signed
use Rattle.ver_ast.specs.AtomForms.{constant_number}
use Rattle.ver_ast.specs.Atoms as atom
use Rattle.ver_ast.specs.Atoms.{AtomTree, AtomTrees}
use Rattle.ver_ast.specs.Tokens.{VToken, word, digit_zero, number, constant, sign, double, signed_shift, signed_word}

abbrev pub direction_keyword : Direction → List ℕ
direction_keyword Input = codes "input"
direction_keyword Output = codes "output"

abbrev pub range_tokens : ℕ → List VToken
range_tokens width = if nat_eq width 1 then [] else (sign 91 ∷ number (width - 1) ∷ sign 58 ∷ digit_zero ∷ sign 93 ∷ [])

abbrev pub mark_tokens : Bool → List VToken
mark_tokens is_clock = if is_clock then (double 40 42 ∷ word (codes "clock") ∷ double 42 41 ∷ []) else []

abbrev pub port_tokens : Port → List VToken
port_tokens p = mark_tokens p.is_clock ++ word (direction_keyword p.direction) ∷ range_tokens p.width ++ word p.name ∷ []

-- a port behind another
abbrev pub next_port_tokens : Port → List VToken
next_port_tokens p = sign 44 ∷ port_tokens p

abbrev pub ports_tokens : List Port → List VToken
ports_tokens [] = []
ports_tokens (p ∷ ps) = port_tokens p ++ flat_map next_port_tokens ps

abbrev mutual
  pub atom_tokens : AtomTree → List VToken
  atom_tokens (atom.net n) = word n ∷ []
  atom_tokens (atom.constant width value) = constant width value ∷ []
  atom_tokens (atom.bit_select n i) = word n ∷ sign 91 ∷ number i ∷ sign 93 ∷ []
  atom_tokens (atom.part_select n hi lo) = word n ∷ sign 91 ∷ number hi ∷ sign 58 ∷ number lo ∷ sign 93 ∷ []
  atom_tokens (atom.concat a more) = sign 123 ∷ atom_tokens a ++ next_atom_tokens more ++ sign 125 ∷ []
  atom_tokens (atom.repeat count a) = sign 123 ∷ number count ∷ sign 123 ∷ atom_tokens a ++ sign 125 ∷ sign 125 ∷ []

  -- operands behind another
  pub next_atom_tokens : AtomTrees → List VToken
  next_atom_tokens atom.no_atoms = []
  next_atom_tokens (atom.atom_before a more) = sign 44 ∷ atom_tokens a ++ next_atom_tokens more

abbrev pub unary_sign : UnaryOp → ℕ
unary_sign unary.Not = 126
unary_sign unary.And = 38
unary_sign unary.Or = 124
unary_sign unary.Xor = 94

abbrev pub binary_token : BinaryOp → VToken
binary_token binary.Add = sign 43
binary_token binary.Sub = sign 45
binary_token binary.Mul = sign 42
binary_token binary.Div = sign 47
binary_token binary.Rem = sign 37
binary_token binary.And = sign 38
binary_token binary.Or = sign 124
binary_token binary.Xor = sign 94
binary_token binary.Shl = double 60 60
binary_token binary.Shr = double 62 62
binary_token binary.Eq = double 61 61
binary_token binary.Neq = double 33 61
binary_token binary.Lt = sign 60
binary_token binary.Leq = double 60 61
binary_token binary.Gt = sign 62
binary_token binary.Geq = double 62 61

-- an operator between signed operands is spelled as between others
abbrev pub unsigned_op : SignedOp → BinaryOp
unsigned_op signed.Div = binary.Div
unsigned_op signed.Rem = binary.Rem
unsigned_op signed.Lt = binary.Lt
unsigned_op signed.Leq = binary.Leq
unsigned_op signed.Gt = binary.Gt
unsigned_op signed.Geq = binary.Geq

abbrev pub signed_tokens : AtomTree → List VToken
signed_tokens a = signed_word ∷ sign 40 ∷ atom_tokens a ++ sign 41 ∷ []

abbrev pub rhs_tokens : Rhs → List VToken
rhs_tokens (rhs.Atom a) = atom_tokens a
rhs_tokens (rhs.Unary op a) = sign (unary_sign op) ∷ atom_tokens a
rhs_tokens (rhs.Binary a op b) = atom_tokens a ++ binary_token op ∷ atom_tokens b
rhs_tokens (rhs.Signed a op b) = signed_tokens a ++ binary_token (unsigned_op op) ∷ signed_tokens b
rhs_tokens (rhs.SignedShift a b) = signed_tokens a ++ signed_shift ∷ atom_tokens b
rhs_tokens (rhs.Conditional c a b) = atom_tokens c ++ sign 63 ∷ atom_tokens a ++ sign 58 ∷ atom_tokens b
rhs_tokens (rhs.Word m a) = word m ∷ sign 91 ∷ atom_tokens a ++ sign 93 ∷ []

abbrev pub edge_tokens : Option Edge → List VToken
edge_tokens None = []
edge_tokens (Some e) = word (codes "posedge") ∷ word e.clock ∷ word (codes "or") ∷ []

-- what is written where the reset is not 1
abbrev pub else_tokens : Option Edge → List VToken
else_tokens None = []
else_tokens (Some e) = word (codes "else") ∷ word e.target ∷ double 60 61 ∷ atom_tokens e.source ++ sign 59 ∷ []

abbrev pub write_tokens : Write → List VToken
write_tokens w =
    word (codes "if") ∷ sign 40 ∷ atom_tokens w.condition ++ sign 41 ∷ word w.array ∷ sign 91 ∷ atom_tokens w.index ++ sign 93 ∷ double 60 61
    ∷ atom_tokens w.source ++ sign 59 ∷ []

abbrev pub item_tokens : Item → List VToken
item_tokens (item.Wire n) = word (codes "wire") ∷ range_tokens n.width ++ word n.name ∷ sign 59 ∷ []
item_tokens (item.Reg n) = word (codes "reg") ∷ range_tokens n.width ++ word n.name ∷ sign 59 ∷ []
item_tokens (item.Assign a) = word (codes "assign") ∷ word a.target ∷ sign 61 ∷ rhs_tokens a.rhs ++ sign 59 ∷ []
item_tokens (item.Always b) =
    word (codes "always") ∷ sign 64 ∷ sign 40 ∷ word (codes "posedge") ∷ word b.clock ∷ sign 41 ∷ word b.target ∷ double 60 61
    ∷ atom_tokens b.source ++ sign 59 ∷ []
item_tokens (item.Array a) =
    word (codes "reg") ∷ range_tokens a.width ++ word a.name ∷ sign 91 ∷ digit_zero ∷ sign 58 ∷ number a.last ∷ sign 93 ∷ sign 59 ∷ []
item_tokens (item.Resetting b) =
    word (codes "always") ∷ sign 64 ∷ sign 40 ∷ edge_tokens b.edge ++ word (codes "posedge") ∷ word b.reset ∷ sign 41 ∷ word (codes "if") ∷ sign 40
    ∷ word b.tested ∷ sign 41 ∷ word b.target ∷ double 60 61 ∷ constant b.value.width (constant_number b.value) ∷ sign 59 ∷ else_tokens b.edge
item_tokens (item.Writing b) =
    word (codes "always") ∷ sign 64 ∷ sign 40 ∷ word (codes "posedge") ∷ word b.clock ∷ sign 41 ∷ word (codes "begin") ∷ flat_map write_tokens b.writes
    ++ word (codes "end") ∷ []

abbrev pub module_tokens : Verilog → List VToken
module_tokens v =
    word (codes "module") ∷ word v.name ∷ sign 40 ∷ ports_tokens v.ports ++ sign 41 ∷ sign 59 ∷ flat_map item_tokens v.items ++ word (codes "endmodule") ∷ []
