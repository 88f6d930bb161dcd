-- The trees that may stand in the place of a symbol, and the tokens that spell them.
use Rattle.std.proofs.Common.{◌≡◌, ℕ, List, [], ◌∷◌, ◌++◌, flat_map, Bool, false, Option, Some, None, codes, refl}
use Rattle.std.specs.List.{AllByRecursion}
use Rattle.fir_base.specs.declared.direction.Direction.{Direction}
use Rattle.fir_base.specs.declared.direction.Direction.TheVariants.{Input}
use Rattle.ver_words.specs.Names.{IsName}
use Rattle.ver_words.specs.Reserved.{is_reserved}
use Rattle.ver_ast.specs.declared.tree.BinaryOp.{BinaryOp}
use Rattle.ver_ast.specs.declared.tree.Constant.{Constant}
use Rattle.ver_ast.specs.declared.tree.Item.{Item}
use Rattle.ver_ast.specs.declared.tree.Item.TheVariants as item
use Rattle.ver_ast.specs.declared.tree.Port.{Port}
use Rattle.ver_ast.specs.declared.tree.Rhs.{Rhs}
use Rattle.ver_ast.specs.declared.tree.Rhs.TheVariants as rhs
use Rattle.ver_ast.specs.declared.tree.SignedOp.{SignedOp}
use Rattle.ver_ast.specs.declared.tree.SignedOp.TheVariants as signed
use Rattle.ver_ast.specs.declared.tree.Write.{Write}
use Rattle.ver_ast.specs.AtomForms.{constant_number}
use Rattle.ver_ast.specs.Atoms.{AtomTree, AtomTrees, net, no_atoms}
use Rattle.ver_ast.specs.Grammar.{direction_keyword, range_tokens, mark_tokens, ports_tokens, next_port_tokens, atom_tokens, next_atom_tokens, binary_token, unsigned_op, rhs_tokens, write_tokens, item_tokens}
use Rattle.ver_ast.specs.ItemNames.{rhs_arrays, write_names}
use Rattle.ver_ast.specs.Names.{atom_names, joined_names, rhs_names}
use Rattle.ver_ast.specs.Spells.{IsAlike, AreVerilogNames, HasItemNames, IsInType, HasNumberInType}
use Rattle.ver_ast.specs.Tokens.{VToken, word, digit_zero, number, constant, sign, double, signed_shift, signed_word}
use Rattle.ver_parse.specs.working.Symbols.{Symbol, a_token, a_name, a_number, a_constant, a_range, a_mark, a_direction, ports, more_ports, items, an_item, behind_register, behind_edge, a_block, writes, an_atom, a_select, behind_index, braced, more_atoms, a_side, other_side, behind_side_name, behind_bracket, behind_atom, behind_signed, a_signed_operator}

-- ---- trees

abbrev pub Named : Type 0
Named = (w : List ℕ) × IsName w

abbrev pub NamedAtom : Type 0
NamedAtom = (a : AtomTree) × AreVerilogNames (atom_names a)

abbrev pub NamedAtoms : Type 0
NamedAtoms = (more : AtomTrees) × AreVerilogNames (joined_names more)

abbrev pub SoundConstant : Type 0
SoundConstant = (c : Constant) × IsInType c.number

abbrev pub NamedSide : Type 0
NamedSide = (r : Rhs) × AreVerilogNames (rhs_arrays r ++ rhs_names r)

abbrev pub NamedPorts : Type 0
NamedPorts = (ps : List Port) × AllByRecursion (λ p. IsName p.name) ps

abbrev pub NamedWrites : Type 0
NamedWrites = (ws : List Write) × AreVerilogNames (flat_map write_names ws)

abbrev pub SoundItem : Type 0
SoundItem = (i : Item) × HasItemNames i × HasNumberInType i

abbrev pub SoundItems : Type 0
SoundItems = (is : List Item) × AllByRecursion HasItemNames is × AllByRecursion HasNumberInType is

-- what stands behind a name in an operand
pub data SelectTree : Type 0 where
  unselected : SelectTree
  selected : ℕ → Option ℕ → SelectTree

pub data BracedTree : Type 0 where
  repeats : ℕ → NamedAtom → BracedTree
  joins : NamedAtom → NamedAtoms → BracedTree

-- what stands behind the first operand of a right side
pub data EndTree : Type 0 where
  nothing : EndTree
  operates : BinaryOp → NamedAtom → EndTree
  chooses : NamedAtom → NamedAtom → EndTree

pub data BracketTree : Type 0 where
  selects : ℕ → Option ℕ → EndTree → BracketTree
  reads_word : NamedAtom → BracketTree

pub data NameEndTree : Type 0 where
  ends_so : EndTree → NameEndTree
  brackets : BracketTree → NameEndTree

pub data SignedEndTree : Type 0 where
  shifts : NamedAtom → SignedEndTree
  operates_signed : SignedOp → NamedAtom → SignedEndTree

pub data BlockTree : Type 0 where
  resets : Named → Named → SoundConstant → BlockTree
  writes_all : NamedWrites → BlockTree
  stores : Named → NamedAtom → BlockTree

pub data EdgeTree : Type 0 where
  one_edge : BlockTree → EdgeTree
  two_edges : Named → Named → Named → SoundConstant → Named → NamedAtom → EdgeTree

abbrev pub Tree : Symbol → Type 0
Tree (a_token g) = Unit {0}
Tree a_name = Named
Tree a_number = ℕ
Tree a_constant = SoundConstant
Tree a_range = ℕ
Tree a_mark = Bool
Tree a_direction = Direction
Tree ports = NamedPorts
Tree more_ports = NamedPorts
Tree items = SoundItems
Tree an_item = SoundItem
Tree behind_register = Option ℕ
Tree behind_edge = EdgeTree
Tree a_block = BlockTree
Tree writes = NamedWrites
Tree an_atom = NamedAtom
Tree a_select = SelectTree
Tree behind_index = Option ℕ
Tree braced = BracedTree
Tree more_atoms = NamedAtoms
Tree a_side = NamedSide
Tree other_side = NamedSide
Tree behind_side_name = NameEndTree
Tree behind_bracket = BracketTree
Tree behind_atom = EndTree
Tree behind_signed = SignedEndTree
Tree a_signed_operator = SignedOp

-- ---- the tokens before others

-- no step takes a number or a constant as one very token
abbrev pub own : VToken → VToken
own (number n) = digit_zero
own (constant w x) = digit_zero
own g = g

abbrev pub index_tokens : Option ℕ → List VToken → List VToken
index_tokens None rest = sign 93 ∷ rest
index_tokens (Some low) rest = sign 58 ∷ number low ∷ sign 93 ∷ rest

abbrev pub select_tokens : SelectTree → List VToken → List VToken
select_tokens unselected rest = rest
select_tokens (selected high o) rest = sign 91 ∷ number high ∷ index_tokens o rest

abbrev pub register_tokens : Option ℕ → List VToken → List VToken
register_tokens None rest = sign 59 ∷ rest
register_tokens (Some last) rest = sign 91 ∷ digit_zero ∷ sign 58 ∷ number last ∷ sign 93 ∷ sign 59 ∷ rest

abbrev pub source_tokens : NamedAtom → List VToken → List VToken
source_tokens a rest = double 60 61 ∷ atom_tokens a.0 ++ sign 59 ∷ rest

abbrev pub reset_tokens : Named → Named → SoundConstant → List VToken → List VToken
reset_tokens tested target c rest =
    sign 40 ∷ word tested.0 ∷ sign 41 ∷ word target.0 ∷ double 60 61 ∷ constant c.0.width (constant_number c.0) ∷ sign 59 ∷ rest

abbrev pub block_tokens : BlockTree → List VToken → List VToken
block_tokens (resets tested target c) rest = word (codes "if") ∷ reset_tokens tested target c rest
block_tokens (writes_all ws) rest = word (codes "begin") ∷ flat_map write_tokens ws.0 ++ word (codes "end") ∷ rest
block_tokens (stores n a) rest = word n.0 ∷ source_tokens a rest

abbrev pub edge_tokens : EdgeTree → List VToken → List VToken
edge_tokens (one_edge b) rest = sign 41 ∷ block_tokens b rest
edge_tokens (two_edges reset tested target c again a) rest =
    word (codes "or") ∷ word (codes "posedge") ∷ word reset.0 ∷ sign 41 ∷ word (codes "if")
    ∷ reset_tokens tested target c (word (codes "else") ∷ word again.0 ∷ source_tokens a rest)

abbrev pub braced_tokens : BracedTree → List VToken → List VToken
braced_tokens (repeats n a) rest = number n ∷ sign 123 ∷ atom_tokens a.0 ++ sign 125 ∷ sign 125 ∷ rest
braced_tokens (joins a more) rest = atom_tokens a.0 ++ (next_atom_tokens more.0 ++ sign 125 ∷ rest)

abbrev pub end_tokens : EndTree → List VToken → List VToken
end_tokens nothing rest = rest
end_tokens (operates op b) rest = binary_token op ∷ atom_tokens b.0 ++ rest
end_tokens (chooses a b) rest = sign 63 ∷ atom_tokens a.0 ++ (sign 58 ∷ atom_tokens b.0 ++ rest)

abbrev pub bracket_tokens : BracketTree → List VToken → List VToken
bracket_tokens (selects high o e) rest = number high ∷ index_tokens o (end_tokens e rest)
bracket_tokens (reads_word a) rest = atom_tokens a.0 ++ sign 93 ∷ rest

abbrev pub name_end_tokens : NameEndTree → List VToken → List VToken
name_end_tokens (ends_so e) rest = end_tokens e rest
name_end_tokens (brackets b) rest = sign 91 ∷ bracket_tokens b rest

abbrev pub signed_end_tokens : SignedEndTree → List VToken → List VToken
signed_end_tokens (shifts b) rest = signed_shift ∷ atom_tokens b.0 ++ rest
signed_end_tokens (operates_signed op b) rest = binary_token (unsigned_op op) ∷ signed_word ∷ sign 40 ∷ atom_tokens b.0 ++ sign 41 ∷ rest

abbrev pub spell : (s : Symbol) → Tree s → List VToken → List VToken
spell (a_token g) x rest = own g ∷ rest
spell a_name x rest = word x.0 ∷ rest
spell a_number x rest = number x ∷ rest
spell a_constant x rest = constant x.0.width (constant_number x.0) ∷ rest
spell a_range x rest = range_tokens x ++ rest
spell a_mark x rest = mark_tokens x ++ rest
spell a_direction x rest = word (direction_keyword x) ∷ rest
spell ports x rest = ports_tokens x.0 ++ sign 41 ∷ rest
spell more_ports x rest = flat_map next_port_tokens x.0 ++ sign 41 ∷ rest
spell items x rest = flat_map item_tokens x.0 ++ word (codes "endmodule") ∷ rest
spell an_item x rest = item_tokens x.0 ++ rest
spell behind_register x rest = register_tokens x rest
spell behind_edge x rest = edge_tokens x rest
spell a_block x rest = block_tokens x rest
spell writes x rest = flat_map write_tokens x.0 ++ word (codes "end") ∷ rest
spell an_atom x rest = atom_tokens x.0 ++ rest
spell a_select x rest = select_tokens x rest
spell behind_index x rest = index_tokens x rest
spell braced x rest = braced_tokens x rest
spell more_atoms x rest = next_atom_tokens x.0 ++ sign 125 ∷ rest
spell a_side x rest = rhs_tokens x.0 ++ rest
spell other_side x rest = rhs_tokens x.0 ++ rest
spell behind_side_name x rest = name_end_tokens x rest
spell behind_bracket x rest = bracket_tokens x rest
spell behind_atom x rest = end_tokens x rest
spell behind_signed x rest = signed_end_tokens x rest
spell a_signed_operator x rest = binary_token (unsigned_op x) ∷ rest

-- ---- symbols one behind another

abbrev pub Trees : List Symbol → Type 0
Trees [] = Unit {0}
Trees (s ∷ ss) = Tree s × Trees ss

abbrev pub spell_all : (ss : List Symbol) → Trees ss → List VToken → List VToken
spell_all [] x rest = rest
spell_all (s ∷ ss) x rest = spell s x.0 (spell_all ss x.1 rest)

-- ---- a shortest one

pub x_is_name : IsName (codes "x")
unfolding is_reserved
x_is_name = record { spelled = refl; free = refl }

abbrev pub some_name : Named
some_name = (codes "x", x_is_name)

abbrev pub some_atom : NamedAtom
some_atom = (net some_name.0, (some_name.1, tt))

abbrev pub shortest : (s : Symbol) → Tree s
shortest (a_token g) = tt
shortest a_name = some_name
shortest a_number = 0
shortest a_constant = (record { width = 1; number = None }, tt)
shortest a_range = 1
shortest a_mark = false
shortest a_direction = Input
shortest ports = ([], tt)
shortest more_ports = ([], tt)
shortest items = ([], tt, tt)
shortest an_item = (item.Wire (record { width = 1; name = some_name.0 }), ((some_name.1, tt), tt), tt)
shortest behind_register = None
shortest behind_edge = one_edge (stores some_name some_atom)
shortest a_block = stores some_name some_atom
shortest writes = ([], tt)
shortest an_atom = some_atom
shortest a_select = unselected
shortest behind_index = None
shortest braced = joins some_atom (no_atoms, tt)
shortest more_atoms = (no_atoms, tt)
shortest a_side = (rhs.Atom some_atom.0, (some_name.1, tt))
shortest other_side = (rhs.Atom some_atom.0, (some_name.1, tt))
shortest behind_side_name = ends_so nothing
shortest behind_bracket = reads_word some_atom
shortest behind_atom = nothing
shortest behind_signed = shifts some_atom
shortest a_signed_operator = signed.Div
