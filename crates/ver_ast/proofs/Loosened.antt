-- The tokens of a tree where the one digit 0 is a number like others, and those of a text that are alike to them.
use Rattle.std.proofs.Common.{◌≡◌, ℕ, ◌-◌, ◌^◌, List, [], ◌∷◌, ◌++◌, map, min, refl, ap, ◌∙◌, Option, Some, None}
use Rattle.std.specs.Prelude.{flat_map, codes, nat_eq, Bool, true, false, if◌then◌else◌}
use Rattle.std.proofs.lemmas.List.{map-append}
use Rattle.ver_ast.specs.declared.tree.Verilog.{Verilog}
use Rattle.ver_ast.specs.declared.tree.Port.{Port}
use Rattle.ver_ast.specs.declared.tree.Edge.{Edge}
use Rattle.ver_ast.specs.declared.tree.Write.{Write}
use Rattle.ver_ast.specs.declared.tree.Rhs.{Rhs}
use Rattle.ver_ast.specs.declared.tree.Rhs.TheVariants as rhs
use Rattle.ver_ast.specs.declared.tree.BinaryOp.{BinaryOp}
use Rattle.ver_ast.specs.declared.tree.BinaryOp.TheVariants as binary
use Rattle.ver_ast.specs.declared.tree.Item.{Item}
use Rattle.ver_ast.specs.declared.tree.Item.TheVariants as item
use Rattle.ver_ast.specs.AtomForms.{constant_number}
use Rattle.ver_ast.specs.Atoms.{AtomTree, net, constant, bit_select, part_select, concat, repeat, AtomTrees, no_atoms, atom_before}
use Rattle.ver_ast.specs.Tokens as token
use Rattle.ver_ast.specs.Tokens.{VToken, word, digit_zero, number, sign, double, signed_shift, signed_word}
use Rattle.ver_ast.specs.Pieces.{PlacedToken}
use Rattle.ver_ast.specs.Spells.{counted, IsAlike, AreAlike}
use Rattle.ver_ast.specs.Grammar.{direction_keyword, range_tokens, mark_tokens, port_tokens, next_port_tokens, ports_tokens, atom_tokens, next_atom_tokens, unary_sign, binary_token, unsigned_op, signed_tokens, rhs_tokens, edge_tokens, else_tokens, write_tokens, item_tokens, module_tokens}

-- a token of the grammar
abbrev pub loose : VToken → VToken
loose digit_zero = number 0
loose t = t

-- a token of a text
abbrev pub counting : VToken → VToken
counting digit_zero = number 0
counting (number m) = number (counted m)
counting (token.constant w x) = token.constant (counted w) (min x (2 ^ 128))
counting t = t

alike_token : (g t : VToken) → IsAlike g t → loose g ≡ counting t
alike_token (number n) digit_zero h = ap number h
alike_token (number n) (number m) h = ap number h
alike_token (number n) t h = absurd h
alike_token (token.constant w x) (token.constant u y) h = rw (h.0, h.1) refl
alike_token (token.constant w x) t h = absurd h
alike_token g t h = ap counting h

pub alike_tokens : (gs : List VToken) (ts : List PlacedToken) → AreAlike gs ts → map loose gs ≡ map (λ t. counting t.token) ts
alike_tokens [] [] h = refl
alike_tokens [] (t ∷ ts) h = absurd h
alike_tokens (g ∷ gs) [] h = absurd h
alike_tokens (g ∷ gs) (t ∷ ts) h = rw (alike_token g t.token h.0, alike_tokens gs ts h.1) refl

-- ---- the tokens of a tree

abbrev pub loose_range : ℕ → List VToken
loose_range width = if nat_eq width 1 then [] else (sign 91 ∷ number (width - 1) ∷ sign 58 ∷ number 0 ∷ sign 93 ∷ [])

abbrev pub loose_port : Port → List VToken
loose_port p = mark_tokens p.is_clock ++ word (direction_keyword p.direction) ∷ loose_range p.width ++ word p.name ∷ []

abbrev pub loose_next_port : Port → List VToken
loose_next_port p = sign 44 ∷ loose_port p

abbrev pub loose_ports : List Port → List VToken
loose_ports [] = []
loose_ports (p ∷ ps) = loose_port p ++ flat_map loose_next_port ps

abbrev pub loose_item : Item → List VToken
loose_item (item.Wire n) = word (codes "wire") ∷ loose_range n.width ++ word n.name ∷ sign 59 ∷ []
loose_item (item.Reg n) = word (codes "reg") ∷ loose_range n.width ++ word n.name ∷ sign 59 ∷ []
loose_item (item.Array a) =
    word (codes "reg") ∷ loose_range a.width ++ word a.name ∷ sign 91 ∷ number 0 ∷ sign 58 ∷ number a.last ∷ sign 93 ∷ sign 59 ∷ []
loose_item i = item_tokens i

abbrev pub loose_module : Verilog → List VToken
loose_module v =
    word (codes "module") ∷ word v.name ∷ sign 40 ∷ loose_ports v.ports ++ sign 41 ∷ sign 59 ∷ flat_map loose_item v.items ++ word (codes "endmodule") ∷ []

-- ---- they are those of the grammar, loosened

joined : (xs us ys vs : List VToken) → map loose xs ≡ us → map loose ys ≡ vs → map loose (xs ++ ys) ≡ us ++ vs
joined xs us ys vs h k = map-append loose xs ys ∙ ap (λ z. z ++ map loose ys) h ∙ ap (λ z. us ++ z) k

before : (xs us ys : List VToken) → map loose xs ≡ us → map loose (xs ++ ys) ≡ us ++ map loose ys
before xs us ys h = joined xs us ys (map loose ys) h refl

mutual
  atom_loosened : (a : AtomTree) → map loose (atom_tokens a) ≡ atom_tokens a
  atom_loosened (net n) = refl
  atom_loosened (constant width value) = refl
  atom_loosened (bit_select n i) = refl
  atom_loosened (part_select n hi lo) = refl
  atom_loosened (concat a more) =
      ap (λ z. sign 123 ∷ z)
      (before (atom_tokens a ++ next_atom_tokens more) _ (sign 125 ∷ []) (joined (atom_tokens a) _ _ _ (atom_loosened a) (next_loosened more)))
  atom_loosened (repeat count a) = ap (λ z. sign 123 ∷ number count ∷ sign 123 ∷ z) (before (atom_tokens a) _ (sign 125 ∷ sign 125 ∷ []) (atom_loosened a))

  next_loosened : (more : AtomTrees) → map loose (next_atom_tokens more) ≡ next_atom_tokens more
  next_loosened no_atoms = refl
  next_loosened (atom_before a more) = ap (λ z. sign 44 ∷ z) (joined (atom_tokens a) _ _ _ (atom_loosened a) (next_loosened more))

binary_loosened : (op : BinaryOp) → loose (binary_token op) ≡ binary_token op
binary_loosened binary.Add = refl
binary_loosened op = refl

signed_loosened : (a : AtomTree) → map loose (signed_tokens a) ≡ signed_tokens a
signed_loosened a = ap (λ z. signed_word ∷ sign 40 ∷ z) (before (atom_tokens a) _ (sign 41 ∷ []) (atom_loosened a))

operator_loosened : (op : BinaryOp) (ts us : List VToken) → map loose ts ≡ us → map loose (binary_token op ∷ ts) ≡ binary_token op ∷ us
operator_loosened op ts us h = rw (binary_loosened op, h) refl

rhs_loosened : (x : Rhs) → map loose (rhs_tokens x) ≡ rhs_tokens x
rhs_loosened (rhs.Atom a) = atom_loosened a
rhs_loosened (rhs.Unary op a) = ap (λ z. sign (unary_sign op) ∷ z) (atom_loosened a)
rhs_loosened (rhs.Binary a op b) = joined (atom_tokens a) _ _ _ (atom_loosened a) (operator_loosened op (atom_tokens b) _ (atom_loosened b))
rhs_loosened (rhs.Signed a op b) = joined (signed_tokens a) _ _ _ (signed_loosened a) (operator_loosened (unsigned_op op) (signed_tokens b) _ (signed_loosened b))
rhs_loosened (rhs.SignedShift a b) = joined (signed_tokens a) _ (signed_shift ∷ atom_tokens b) _ (signed_loosened a) (ap (λ z. signed_shift ∷ z) (atom_loosened b))
rhs_loosened (rhs.Conditional c a b) =
    joined (atom_tokens c ++ sign 63 ∷ atom_tokens a) _ (sign 58 ∷ atom_tokens b) _
    (joined (atom_tokens c) _ (sign 63 ∷ atom_tokens a) _ (atom_loosened c) (ap (λ z. sign 63 ∷ z) (atom_loosened a)))
    (ap (λ z. sign 58 ∷ z) (atom_loosened b))
rhs_loosened (rhs.Word m a) = ap (λ z. word m ∷ sign 91 ∷ z) (before (atom_tokens a) _ (sign 93 ∷ []) (atom_loosened a))

source_loosened : (a : AtomTree) → map loose (atom_tokens a ++ sign 59 ∷ []) ≡ atom_tokens a ++ sign 59 ∷ []
source_loosened a = before (atom_tokens a) _ (sign 59 ∷ []) (atom_loosened a)

range_loosened : (width : ℕ) → map loose (range_tokens width) ≡ loose_range width
range_loosened width = by (nat_eq width 1)
  where
    by : (one : Bool) → map loose (if one then [] else (sign 91 ∷ number (width - 1) ∷ sign 58 ∷ digit_zero ∷ sign 93 ∷ []))
        ≡ (if one then [] else (sign 91 ∷ number (width - 1) ∷ sign 58 ∷ number 0 ∷ sign 93 ∷ []))
    by true = refl
    by false = refl

sized_loosened : (width : ℕ) (ts : List VToken) → map loose (range_tokens width ++ ts) ≡ loose_range width ++ map loose ts
sized_loosened width ts = before (range_tokens width) _ ts (range_loosened width)

mark_loosened : (is_clock : Bool) → map loose (mark_tokens is_clock) ≡ mark_tokens is_clock
mark_loosened true = refl
mark_loosened false = refl

port_loosened : (p : Port) → map loose (port_tokens p) ≡ loose_port p
port_loosened p =
    before (mark_tokens p.is_clock ++ word (direction_keyword p.direction) ∷ range_tokens p.width) _ (word p.name ∷ [])
    (joined (mark_tokens p.is_clock) _ (word (direction_keyword p.direction) ∷ range_tokens p.width) _ (mark_loosened p.is_clock)
    (ap (λ z. word (direction_keyword p.direction) ∷ z) (range_loosened p.width)))

next_ports_loosened : (ps : List Port) → map loose (flat_map next_port_tokens ps) ≡ flat_map loose_next_port ps
next_ports_loosened [] = refl
next_ports_loosened (p ∷ ps) = ap (λ z. sign 44 ∷ z) (joined (port_tokens p) _ _ _ (port_loosened p) (next_ports_loosened ps))

ports_loosened : (ps : List Port) → map loose (ports_tokens ps) ≡ loose_ports ps
ports_loosened [] = refl
ports_loosened (p ∷ ps) = joined (port_tokens p) _ _ _ (port_loosened p) (next_ports_loosened ps)

edge_loosened : (e : Option Edge) → map loose (edge_tokens e) ≡ edge_tokens e
edge_loosened None = refl
edge_loosened (Some e) = refl

else_loosened : (e : Option Edge) → map loose (else_tokens e) ≡ else_tokens e
else_loosened None = refl
else_loosened (Some e) = ap (λ z. word (codes "else") ∷ word e.target ∷ double 60 61 ∷ z) (source_loosened e.source)

write_loosened : (w : Write) → map loose (write_tokens w) ≡ write_tokens w
write_loosened w =
    let array = sign 41 ∷ word w.array ∷ sign 91 ∷ atom_tokens w.index in
    let source = sign 93 ∷ double 60 61 ∷ atom_tokens w.source in
    ap (λ z. word (codes "if") ∷ sign 40 ∷ z)
    (before ((atom_tokens w.condition ++ array) ++ source) _ (sign 59 ∷ [])
    (joined (atom_tokens w.condition ++ array) _ source _
    (joined (atom_tokens w.condition) _ array _ (atom_loosened w.condition) (ap (λ z. sign 41 ∷ word w.array ∷ sign 91 ∷ z) (atom_loosened w.index)))
    (ap (λ z. sign 93 ∷ double 60 61 ∷ z) (atom_loosened w.source))))

writes_loosened : (ws : List Write) → map loose (flat_map write_tokens ws) ≡ flat_map write_tokens ws
writes_loosened [] = refl
writes_loosened (w ∷ ws) = joined (write_tokens w) _ _ _ (write_loosened w) (writes_loosened ws)

item_loosened : (i : Item) → map loose (item_tokens i) ≡ loose_item i
item_loosened (item.Wire n) = ap (λ z. word (codes "wire") ∷ z) (sized_loosened n.width (word n.name ∷ sign 59 ∷ []))
item_loosened (item.Reg n) = ap (λ z. word (codes "reg") ∷ z) (sized_loosened n.width (word n.name ∷ sign 59 ∷ []))
item_loosened (item.Assign a) = ap (λ z. word (codes "assign") ∷ word a.target ∷ sign 61 ∷ z) (before (rhs_tokens a.rhs) _ (sign 59 ∷ []) (rhs_loosened a.rhs))
item_loosened (item.Always b) =
    ap (λ z. word (codes "always") ∷ sign 64 ∷ sign 40 ∷ word (codes "posedge") ∷ word b.clock ∷ sign 41 ∷ word b.target ∷ double 60 61 ∷ z)
    (source_loosened b.source)
item_loosened (item.Array a) = ap (λ z. word (codes "reg") ∷ z)
    (sized_loosened a.width (word a.name ∷ sign 91 ∷ digit_zero ∷ sign 58 ∷ number a.last ∷ sign 93 ∷ sign 59 ∷ []))
item_loosened (item.Resetting b) =
    ap (λ z. word (codes "always") ∷ sign 64 ∷ sign 40 ∷ z)
    (joined (edge_tokens b.edge) _ _ _ (edge_loosened b.edge)
    (ap (λ z. word (codes "posedge") ∷ word b.reset ∷ sign 41 ∷ word (codes "if") ∷ sign 40 ∷ word b.tested ∷ sign 41 ∷ word b.target ∷ double 60 61
    ∷ token.constant b.value.width (constant_number b.value) ∷ sign 59 ∷ z)
    (else_loosened b.edge)))
item_loosened (item.Writing b) =
    ap (λ z. word (codes "always") ∷ sign 64 ∷ sign 40 ∷ word (codes "posedge") ∷ word b.clock ∷ sign 41 ∷ word (codes "begin") ∷ z)
    (before (flat_map write_tokens b.writes) _ (word (codes "end") ∷ []) (writes_loosened b.writes))

items_loosened : (is : List Item) → map loose (flat_map item_tokens is) ≡ flat_map loose_item is
items_loosened [] = refl
items_loosened (i ∷ is) = joined (item_tokens i) _ _ _ (item_loosened i) (items_loosened is)

pub module_loosened : (v : Verilog) → map loose (module_tokens v) ≡ loose_module v
module_loosened v =
    ap (λ z. word (codes "module") ∷ word v.name ∷ sign 40 ∷ z)
    (before (ports_tokens v.ports ++ sign 41 ∷ sign 59 ∷ flat_map item_tokens v.items) _ (word (codes "endmodule") ∷ [])
    (joined (ports_tokens v.ports) _ (sign 41 ∷ sign 59 ∷ flat_map item_tokens v.items) _ (ports_loosened v.ports)
    (ap (λ z. sign 41 ∷ sign 59 ∷ z) (items_loosened v.items))))
