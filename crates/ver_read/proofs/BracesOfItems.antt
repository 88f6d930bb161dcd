-- At most 256 braces are open along the tokens of a tree exactly where at most 256 are in each of its operands.
use Rattle.std.proofs.Common.{◌≡◌, ◌↔◌, ℕ, ◌+◌, ◌-◌, ◌≤◌, List, [], ◌∷◌, ◌++◌, Bool, true, false, ◌&&◌, nat_eq, if◌then◌else◌, Option, Some, None, refl, sym, ap, ◌∙◌, subst, arith}
use Rattle.std.specs.Prelude.{flat_map, codes}
use Rattle.std.specs.List.{AllByRecursion, list_all}
use Rattle.std.proofs.lemmas.Bool.{eqb-true}
use Rattle.std.proofs.lemmas.List.{append_assoc}
use Rattle.fir_base.specs.declared.direction.Direction.{Direction}
use Rattle.ver_ast.specs.declared.tree.Verilog.{Verilog}
use Rattle.ver_ast.specs.declared.tree.Port.{Port}
use Rattle.ver_ast.specs.declared.tree.Edge.{Edge}
use Rattle.ver_ast.specs.declared.tree.Write.{Write}
use Rattle.ver_ast.specs.declared.tree.Item.{Item}
use Rattle.ver_ast.specs.declared.tree.Item.TheVariants as item
use Rattle.ver_ast.specs.declared.tree.Rhs.{Rhs}
use Rattle.ver_ast.specs.declared.tree.Rhs.TheVariants as rhs
use Rattle.ver_ast.specs.declared.tree.UnaryOp.TheVariants as unary
use Rattle.ver_ast.specs.declared.tree.BinaryOp.{BinaryOp}
use Rattle.ver_ast.specs.declared.tree.BinaryOp.TheVariants as binary
use Rattle.ver_ast.specs.declared.tree.UnaryOp.{UnaryOp}
use Rattle.ver_ast.specs.Tokens.{VToken, word, digit_zero, number, constant, sign, double, signed_shift, signed_word}
use Rattle.ver_ast.specs.Atoms.{AtomTree, AtomTrees, net, constant as constant_atom, bit_select, part_select, concat, repeat, no_atoms, atom_before}
use Rattle.ver_ast.specs.AtomForms.{constant_number}
use Rattle.ver_ast.specs.Grammar.{atom_tokens, next_atom_tokens, range_tokens, mark_tokens, port_tokens, ports_tokens, next_port_tokens, direction_keyword, unary_sign, binary_token, unsigned_op, signed_tokens, rhs_tokens, edge_tokens, else_tokens, write_tokens, item_tokens, module_tokens}
use Rattle.ver_ast.specs.Names.{rhs_atoms}
use Rattle.ver_ast.specs.SoundSides.{atom_depth, joined_depth}
use Rattle.ver_parse.specs.Depths.{opened_by}
use Rattle.ver_check.specs.working.Laws.{IsShallow, IsShallowAtom, IsShallowEdge, IsShallowItem, IsShallowWrite}
use Rattle.ver_read.proofs.Braces.{Low, low_here, low_atom, atom_low, closed_again, closed_twice, grouped}

-- these tokens open what P allows, and close it again
abbrev pub AtTop : Type 0 → List VToken → Type 0
AtTop P ts = (rest : List VToken) → Low 0 (ts ++ rest) ↔ (P × Low 0 rest)

abbrev NoBrace : VToken → Type 0
NoBrace t = (d : ℕ) → opened_by d t ≡ d

pub nothing : AtTop (Unit {0}) []
nothing rest = (λ h. (tt, h), λ h. h.1)

-- behind a token that is no brace
pub behind : (P : Type 0) (t : VToken) (ts : List VToken) → opened_by 0 t ≡ 0 → AtTop P ts → AtTop P (t ∷ ts)
behind P t ts e h rest = (
  λ l. (h rest).0 (subst (λ d. Low d (ts ++ rest)) e l.1),
  λ l. (omega arith, subst (λ d. Low d (ts ++ rest)) (sym e) ((h rest).1 l)),
)

pub joined : (P Q : Type 0) (xs ys : List VToken) → AtTop P xs → AtTop Q ys → AtTop (P × Q) (xs ++ ys)
joined P Q xs ys h k rest = (
  λ l. let first = (h (ys ++ rest)).0 (subst (Low 0) (append_assoc xs ys rest) l) in
      let second = (k rest).0 first.1 in
      ((first.0, second.0), second.1),
  λ l. subst (Low 0) (sym (append_assoc xs ys rest)) ((h (ys ++ rest)).1 (l.0.0, (k rest).1 (l.0.1, l.1))),
)

pub so : (P Q : Type 0) (ts : List VToken) → P ↔ Q → AtTop P ts → AtTop Q ts
so P Q ts e h rest = (
  λ l. let k = (h rest).0 l in (e.0 k.0, k.1),
  λ l. (h rest).1 (e.1 l.0, l.1),
)

from_none : (n : ℕ) → 0 + n ≤ 256 → n ≤ 256
from_none n h = omega arith

to_none : (n : ℕ) → n ≤ 256 → 0 + n ≤ 256
to_none n h = omega arith

pub at_atom : (a : AtomTree) → AtTop (IsShallowAtom a) (atom_tokens a)
at_atom a rest = (
  λ l. let h = low_atom a 0 rest l in (from_none (atom_depth a) h.0, h.1),
  λ l. atom_low a 0 rest (to_none (atom_depth a) l.0) l.1,
)

-- a token that opens nothing where nothing is open
abbrev IsFlat : VToken → Type 0
IsFlat t = opened_by 0 t ≡ 0

pub between : (P Q : Type 0) (xs ys : List VToken) (t : VToken) → IsFlat t → AtTop P xs → AtTop Q ys → AtTop (P × Q) (xs ++ t ∷ ys)
between P Q xs ys t e h k = joined P Q xs (t ∷ ys) h (behind Q t ys e k)

pub ended : (P : Type 0) (xs : List VToken) (t : VToken) → IsFlat t → AtTop P xs → AtTop P (xs ++ t ∷ [])
ended P xs t e h = so (P × Unit {0}) P (xs ++ t ∷ []) (λ p. p.0, λ p. (p, tt)) (between P (Unit {0}) xs [] t e h nothing)

flat_unary : (op : UnaryOp) → IsFlat (sign (unary_sign op))
flat_unary unary.Not = refl
flat_unary unary.And = refl
flat_unary unary.Or = refl
flat_unary unary.Xor = refl

flat_binary : (op : BinaryOp) → IsFlat (binary_token op)
flat_binary binary.Add = refl
flat_binary binary.Sub = refl
flat_binary binary.Mul = refl
flat_binary binary.Div = refl
flat_binary binary.Rem = refl
flat_binary binary.And = refl
flat_binary binary.Or = refl
flat_binary binary.Xor = refl
flat_binary binary.Shl = refl
flat_binary binary.Shr = refl
flat_binary binary.Eq = refl
flat_binary binary.Neq = refl
flat_binary binary.Lt = refl
flat_binary binary.Leq = refl
flat_binary binary.Gt = refl
flat_binary binary.Geq = refl

at_signed : (a : AtomTree) → AtTop (IsShallowAtom a) (signed_tokens a)
at_signed a =
    behind (IsShallowAtom a) signed_word (sign 40 ∷ (atom_tokens a ++ sign 41 ∷ [])) refl
    (behind (IsShallowAtom a) (sign 40) (atom_tokens a ++ sign 41 ∷ []) refl (ended (IsShallowAtom a) (atom_tokens a) (sign 41) refl (at_atom a)))

abbrev AreShallow : List AtomTree → Type 0
AreShallow = AllByRecursion IsShallowAtom

one_atom : (P : Type 0) → P ↔ (P × Unit {0})
one_atom P = (λ p. (p, tt), λ p. p.0)

two_atoms : (P Q : Type 0) → (P × Q) ↔ (P × (Q × Unit {0}))
two_atoms P Q = (λ p. (p.0, (p.1, tt)), λ p. (p.0, p.1.0))

pub at_side : (r : Rhs) → AtTop (AreShallow (rhs_atoms r)) (rhs_tokens r)
at_side (rhs.Atom a) = so (IsShallowAtom a) (AreShallow (rhs_atoms (rhs.Atom a))) (atom_tokens a) (one_atom (IsShallowAtom a)) (at_atom a)
at_side (rhs.Unary op a) =
    so (IsShallowAtom a) (AreShallow (rhs_atoms (rhs.Unary op a))) (rhs_tokens (rhs.Unary op a)) (one_atom (IsShallowAtom a))
    (behind (IsShallowAtom a) (sign (unary_sign op)) (atom_tokens a) (flat_unary op) (at_atom a))
at_side (rhs.Binary a op b) =
    so (IsShallowAtom a × IsShallowAtom b) (AreShallow (rhs_atoms (rhs.Binary a op b))) (rhs_tokens (rhs.Binary a op b)) (two_atoms (IsShallowAtom a) (IsShallowAtom b))
    (between (IsShallowAtom a) (IsShallowAtom b) (atom_tokens a) (atom_tokens b) (binary_token op) (flat_binary op) (at_atom a) (at_atom b))
at_side (rhs.Signed a op b) =
    so (IsShallowAtom a × IsShallowAtom b) (AreShallow (rhs_atoms (rhs.Signed a op b))) (rhs_tokens (rhs.Signed a op b)) (two_atoms (IsShallowAtom a) (IsShallowAtom b))
    (between (IsShallowAtom a) (IsShallowAtom b) (signed_tokens a) (signed_tokens b) (binary_token (unsigned_op op)) (flat_binary (unsigned_op op)) (at_signed a) (at_signed b))
at_side (rhs.SignedShift a b) =
    so (IsShallowAtom a × IsShallowAtom b) (AreShallow (rhs_atoms (rhs.SignedShift a b))) (rhs_tokens (rhs.SignedShift a b)) (two_atoms (IsShallowAtom a) (IsShallowAtom b))
    (between (IsShallowAtom a) (IsShallowAtom b) (signed_tokens a) (atom_tokens b) signed_shift refl (at_signed a) (at_atom b))
at_side (rhs.Conditional c a b) =
    so ((IsShallowAtom c × IsShallowAtom a) × IsShallowAtom b) (AreShallow (rhs_atoms (rhs.Conditional c a b))) (rhs_tokens (rhs.Conditional c a b))
    (λ p. (p.0.0, (p.0.1, (p.1, tt))), λ p. ((p.0, p.1.0), p.1.1.0))
    (between (IsShallowAtom c × IsShallowAtom a) (IsShallowAtom b) (atom_tokens c ++ sign 63 ∷ atom_tokens a) (atom_tokens b) (sign 58) refl
    (between (IsShallowAtom c) (IsShallowAtom a) (atom_tokens c) (atom_tokens a) (sign 63) refl (at_atom c) (at_atom a)) (at_atom b))
at_side (rhs.Word m a) =
    so (IsShallowAtom a) (AreShallow (rhs_atoms (rhs.Word m a))) (rhs_tokens (rhs.Word m a)) (one_atom (IsShallowAtom a))
    (behind (IsShallowAtom a) (word m) (sign 91 ∷ (atom_tokens a ++ sign 93 ∷ [])) refl
    (behind (IsShallowAtom a) (sign 91) (atom_tokens a ++ sign 93 ∷ []) refl (ended (IsShallowAtom a) (atom_tokens a) (sign 93) refl (at_atom a))))

abbrev pub Calm : List VToken → Type 0
Calm ts = AtTop (Unit {0}) ts

calm_joined : (xs ys : List VToken) → Calm xs → Calm ys → Calm (xs ++ ys)
calm_joined xs ys h k = so (Unit {0} × Unit {0}) (Unit {0}) (xs ++ ys) (λ p. tt, λ p. (tt, tt)) (joined (Unit {0}) (Unit {0}) xs ys h k)

-- before what P allows, and behind it
calm_before : (P : Type 0) (xs ys : List VToken) → Calm xs → AtTop P ys → AtTop P (xs ++ ys)
calm_before P xs ys h k = so (Unit {0} × P) P (xs ++ ys) (λ p. p.1, λ p. (tt, p)) (joined (Unit {0}) P xs ys h k)

calm_behind : (P : Type 0) (xs ys : List VToken) → AtTop P xs → Calm ys → AtTop P (xs ++ ys)
calm_behind P xs ys h k = so (P × Unit {0}) P (xs ++ ys) (λ p. p.0, λ p. (p, tt)) (joined P (Unit {0}) xs ys h k)

-- tokens of which none is a brace
abbrev is_flat : VToken → Bool
is_flat t = nat_eq (opened_by 0 t) 0

first_true : (a b : Bool) → (a && b) ≡ true → a ≡ true
first_true true b e = refl
first_true false b e = absurd (cc)

rest_true : (a b : Bool) → (a && b) ≡ true → b ≡ true
rest_true true b e = e
rest_true false b e = absurd (cc)

calm : (ts : List VToken) → list_all is_flat ts ≡ true → Calm ts
calm [] e = nothing
calm (t ∷ ts) e = behind (Unit {0}) t ts (eqb-true (opened_by 0 t) 0 (first_true (is_flat t) (list_all is_flat ts) e)) (calm ts (rest_true (is_flat t) (list_all is_flat ts) e))

calm_if : (c : Bool) (xs ys : List VToken) → Calm xs → Calm ys → Calm (if c then xs else ys)
calm_if true xs ys h k = h
calm_if false xs ys h k = k

calm_range : (w : ℕ) → Calm (range_tokens w)
calm_range w = calm_if (nat_eq w 1) [] (sign 91 ∷ number (w - 1) ∷ sign 58 ∷ digit_zero ∷ sign 93 ∷ []) nothing (calm (sign 91 ∷ number (w - 1) ∷ sign 58 ∷ digit_zero ∷ sign 93 ∷ []) refl)

calm_mark : (c : Bool) → Calm (mark_tokens c)
calm_mark true = calm (mark_tokens true) refl
calm_mark false = nothing

calm_port : (p : Port) → Calm (port_tokens p)
calm_port p =
    calm_joined (mark_tokens p.is_clock ++ word (direction_keyword p.direction) ∷ range_tokens p.width) (word p.name ∷ [])
    (calm_joined (mark_tokens p.is_clock) (word (direction_keyword p.direction) ∷ range_tokens p.width) (calm_mark p.is_clock)
    (calm_joined (word (direction_keyword p.direction) ∷ []) (range_tokens p.width) (calm (word (direction_keyword p.direction) ∷ []) refl) (calm_range p.width)))
    (calm (word p.name ∷ []) refl)

calm_more_ports : (ps : List Port) → Calm (flat_map next_port_tokens ps)
calm_more_ports [] = nothing
calm_more_ports (p ∷ ps) =
    calm_joined (next_port_tokens p) (flat_map next_port_tokens ps) (calm_joined (sign 44 ∷ []) (port_tokens p) (calm (sign 44 ∷ []) refl) (calm_port p)) (calm_more_ports ps)

calm_ports : (ps : List Port) → Calm (ports_tokens ps)
calm_ports [] = nothing
calm_ports (p ∷ ps) = calm_joined (port_tokens p) (flat_map next_port_tokens ps) (calm_port p) (calm_more_ports ps)

calm_net : (keyword : List ℕ) (w : ℕ) (name : List ℕ) (ts : List VToken) → Calm ts → Calm (word keyword ∷ range_tokens w ++ word name ∷ ts)
calm_net keyword w name ts h =
    calm_joined (word keyword ∷ range_tokens w) (word name ∷ ts) (calm_joined (word keyword ∷ []) (range_tokens w) (calm (word keyword ∷ []) refl) (calm_range w))
    (calm_joined (word name ∷ []) ts (calm (word name ∷ []) refl) h)

at_write : (w : Write) → AtTop (IsShallowWrite w) (write_tokens w)
at_write w =
    so ((IsShallowAtom w.condition × IsShallowAtom w.index) × IsShallowAtom w.source) (IsShallowWrite w) (write_tokens w) (λ p. (p.0.0, p.0.1, p.1), λ p. ((p.0, p.1), p.2))
    (calm_behind ((IsShallowAtom w.condition × IsShallowAtom w.index) × IsShallowAtom w.source) (before_index ++ array_part ++ source_part) (sign 59 ∷ [])
    (joined (IsShallowAtom w.condition × IsShallowAtom w.index) (IsShallowAtom w.source) (before_index ++ array_part) source_part
    (joined (IsShallowAtom w.condition) (IsShallowAtom w.index) before_index array_part
    (calm_before (IsShallowAtom w.condition) (word (codes "if") ∷ sign 40 ∷ []) (atom_tokens w.condition) (calm (word (codes "if") ∷ sign 40 ∷ []) refl) (at_atom w.condition))
    (calm_before (IsShallowAtom w.index) (sign 41 ∷ word w.array ∷ sign 91 ∷ []) (atom_tokens w.index) (calm (sign 41 ∷ word w.array ∷ sign 91 ∷ []) refl) (at_atom w.index)))
    (calm_before (IsShallowAtom w.source) (sign 93 ∷ double 60 61 ∷ []) (atom_tokens w.source) (calm (sign 93 ∷ double 60 61 ∷ []) refl) (at_atom w.source)))
    (calm (sign 59 ∷ []) refl))
  where
    before_index : List VToken
    before_index = word (codes "if") ∷ sign 40 ∷ atom_tokens w.condition

    array_part : List VToken
    array_part = sign 41 ∷ word w.array ∷ sign 91 ∷ atom_tokens w.index

    source_part : List VToken
    source_part = sign 93 ∷ double 60 61 ∷ atom_tokens w.source

at_writes : (ws : List Write) → AtTop (AllByRecursion IsShallowWrite ws) (flat_map write_tokens ws)
at_writes [] = nothing
at_writes (w ∷ ws) = joined (IsShallowWrite w) (AllByRecursion IsShallowWrite ws) (write_tokens w) (flat_map write_tokens ws) (at_write w) (at_writes ws)

at_edge : (e : Option Edge) → AtTop (IsShallowEdge e) (else_tokens e)
at_edge None = nothing
at_edge (Some e) =
    calm_behind (IsShallowAtom e.source) (word (codes "else") ∷ word e.target ∷ double 60 61 ∷ atom_tokens e.source) (sign 59 ∷ [])
    (calm_before (IsShallowAtom e.source) (word (codes "else") ∷ word e.target ∷ double 60 61 ∷ []) (atom_tokens e.source)
    (calm (word (codes "else") ∷ word e.target ∷ double 60 61 ∷ []) refl) (at_atom e.source))
    (calm (sign 59 ∷ []) refl)

calm_edge : (e : Option Edge) → Calm (edge_tokens e)
calm_edge None = nothing
calm_edge (Some e) = calm (word (codes "posedge") ∷ word e.clock ∷ word (codes "or") ∷ []) refl

-- of a block behind its edge, up to what is written where the reset is not 1
abbrev reset_tokens : List ℕ → List ℕ → List ℕ → ℕ → ℕ → List VToken
reset_tokens reset tested target w x =
    word (codes "posedge") ∷ word reset ∷ sign 41 ∷ word (codes "if") ∷ sign 40 ∷ word tested ∷ sign 41 ∷ word target ∷ double 60 61 ∷ constant w x ∷ sign 59 ∷ []

pub at_item : (i : Item) → AtTop (IsShallowItem i) (item_tokens i)
at_item (item.Wire n) = calm_net (codes "wire") n.width n.name (sign 59 ∷ []) (calm (sign 59 ∷ []) refl)
at_item (item.Reg n) = calm_net (codes "reg") n.width n.name (sign 59 ∷ []) (calm (sign 59 ∷ []) refl)
at_item (item.Array a) =
    calm_net (codes "reg") a.width a.name (sign 91 ∷ digit_zero ∷ sign 58 ∷ number a.last ∷ sign 93 ∷ sign 59 ∷ [])
    (calm (sign 91 ∷ digit_zero ∷ sign 58 ∷ number a.last ∷ sign 93 ∷ sign 59 ∷ []) refl)
at_item (item.Assign a) =
    calm_behind (AreShallow (rhs_atoms a.rhs)) (word (codes "assign") ∷ word a.target ∷ sign 61 ∷ rhs_tokens a.rhs) (sign 59 ∷ [])
    (calm_before (AreShallow (rhs_atoms a.rhs)) (word (codes "assign") ∷ word a.target ∷ sign 61 ∷ []) (rhs_tokens a.rhs)
    (calm (word (codes "assign") ∷ word a.target ∷ sign 61 ∷ []) refl) (at_side a.rhs))
    (calm (sign 59 ∷ []) refl)
at_item (item.Always b) =
    let head = word (codes "always") ∷ sign 64 ∷ sign 40 ∷ word (codes "posedge") ∷ word b.clock ∷ sign 41 ∷ word b.target ∷ double 60 61 ∷ [] in
    calm_behind (IsShallowAtom b.source) (head ++ atom_tokens b.source) (sign 59 ∷ [])
    (calm_before (IsShallowAtom b.source) head (atom_tokens b.source) (calm head refl) (at_atom b.source))
    (calm (sign 59 ∷ []) refl)
at_item (item.Resetting b) =
    let head = word (codes "always") ∷ sign 64 ∷ sign 40 ∷ [] in
    let reset = reset_tokens b.reset b.tested b.target b.value.width (constant_number b.value) in
    calm_before (IsShallowEdge b.edge) (head ++ edge_tokens b.edge) (reset ++ else_tokens b.edge)
    (calm_joined head (edge_tokens b.edge) (calm head refl) (calm_edge b.edge))
    (calm_before (IsShallowEdge b.edge) reset (else_tokens b.edge) (calm reset refl) (at_edge b.edge))
at_item (item.Writing b) =
    let head = word (codes "always") ∷ sign 64 ∷ sign 40 ∷ word (codes "posedge") ∷ word b.clock ∷ sign 41 ∷ word (codes "begin") ∷ [] in
    let P = AllByRecursion IsShallowWrite b.writes in
    calm_behind P (head ++ flat_map write_tokens b.writes) (word (codes "end") ∷ [])
    (calm_before P head (flat_map write_tokens b.writes) (calm head refl) (at_writes b.writes))
    (calm (word (codes "end") ∷ []) refl)

at_items : (is : List Item) → AtTop (AllByRecursion IsShallowItem is) (flat_map item_tokens is)
at_items [] = nothing
at_items (i ∷ is) = joined (IsShallowItem i) (AllByRecursion IsShallowItem is) (item_tokens i) (flat_map item_tokens is) (at_item i) (at_items is)

pub at_module : (v : Verilog) → AtTop (IsShallow v) (module_tokens v)
at_module v =
    let head = word (codes "module") ∷ word v.name ∷ sign 40 ∷ [] in
    let between = sign 41 ∷ sign 59 ∷ [] in
    calm_behind (IsShallow v) (head ++ ports_tokens v.ports ++ (between ++ flat_map item_tokens v.items)) (word (codes "endmodule") ∷ [])
    (calm_before (IsShallow v) (head ++ ports_tokens v.ports) (between ++ flat_map item_tokens v.items)
    (calm_joined head (ports_tokens v.ports) (calm head refl) (calm_ports v.ports))
    (calm_before (IsShallow v) between (flat_map item_tokens v.items) (calm between refl) (at_items v.items)))
    (calm (word (codes "endmodule") ∷ []) refl)
