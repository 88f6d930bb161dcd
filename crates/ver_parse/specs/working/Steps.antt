-- What a token does where something is expected.
use Rattle.std.specs.Prelude.{ℕ, List, [], ◌∷◌, ◌++◌, Bool, true, false, ◌||◌, ◌&&◌, not, nat_eq, if◌then◌else◌, Option, Some, None, codes}
use Rattle.std.specs.Str.{bytes_eq}
use Rattle.fir_base.specs.declared.direction.Direction.{Direction}
use Rattle.fir_base.specs.declared.direction.Direction.TheVariants.{Input, Output}
use Rattle.ver_words.specs.Names.{is_word}
use Rattle.ver_words.specs.Reserved.{is_reserved}
use Rattle.ver_ast.specs.Tokens.{VToken, word, digit_zero, number, constant, sign, double, signed_shift, signed_word, question_digit}
use Rattle.ver_parse.specs.declared.keyword.Keyword.{Keyword}
use Rattle.ver_parse.specs.declared.keyword.Keyword.TheVariants as keyword
use Rattle.ver_ast.specs.declared.tree.UnaryOp.{UnaryOp}
use Rattle.ver_ast.specs.declared.tree.UnaryOp.TheVariants as unary
use Rattle.ver_ast.specs.declared.tree.BinaryOp.{BinaryOp}
use Rattle.ver_ast.specs.declared.tree.BinaryOp.TheVariants as binary
use Rattle.ver_ast.specs.declared.tree.SignedOp.{SignedOp}
use Rattle.ver_ast.specs.declared.tree.SignedOp.TheVariants as signed
use Rattle.ver_parse.specs.working.Symbols.{Symbol, a_token, a_name, a_number, a_constant, a_range, a_mark, a_direction, ports, more_ports, items, an_item, behind_register, behind_edge, a_block, writes, an_atom, a_select, behind_index, braced, more_atoms, a_side, other_side, behind_side_name, behind_bracket, behind_atom, behind_signed, a_signed_operator}

-- it is taken, and these are expected in the place of what was; or it belongs to what stands behind; or it is not expected
pub data Step : Type 0 where
  takes : List Symbol → Step
  skips : Step
  refuses : Step

-- ---- words

abbrev pub is_name : List ℕ → Bool
is_name w = is_word w && not (is_reserved w)

abbrev pub keyword_of : List ℕ → Option Keyword
keyword_of w =
    if bytes_eq w (codes "wire") then Some keyword.Wire
    else if bytes_eq w (codes "reg") then Some keyword.Reg
    else if bytes_eq w (codes "assign") then Some keyword.Assign
    else if bytes_eq w (codes "always") then Some keyword.Always
    else None

abbrev pub keyword_word : Keyword → List ℕ
keyword_word keyword.Wire = codes "wire"
keyword_word keyword.Reg = codes "reg"
keyword_word keyword.Assign = codes "assign"
keyword_word keyword.Always = codes "always"

abbrev pub direction_of : List ℕ → Option Direction
direction_of w = if bytes_eq w (codes "input") then Some Input else if bytes_eq w (codes "output") then Some Output else None

-- ---- operators

abbrev pub unary_of_sign : ℕ → Option UnaryOp
unary_of_sign b =
    if nat_eq b 126 then Some unary.Not
    else if nat_eq b 38 then Some unary.And
    else if nat_eq b 124 then Some unary.Or
    else if nat_eq b 94 then Some unary.Xor
    else None

abbrev pub unary_of : VToken → Option UnaryOp
unary_of (sign b) = unary_of_sign b
unary_of _ = None

abbrev pub binary_sign : ℕ → Option BinaryOp
binary_sign b =
    if nat_eq b 43 then Some binary.Add
    else if nat_eq b 45 then Some binary.Sub
    else if nat_eq b 42 then Some binary.Mul
    else if nat_eq b 47 then Some binary.Div
    else if nat_eq b 37 then Some binary.Rem
    else if nat_eq b 38 then Some binary.And
    else if nat_eq b 124 then Some binary.Or
    else if nat_eq b 94 then Some binary.Xor
    else if nat_eq b 60 then Some binary.Lt
    else if nat_eq b 62 then Some binary.Gt
    else None

abbrev pub binary_double : ℕ → ℕ → Option BinaryOp
binary_double a b =
    if nat_eq a 60 && nat_eq b 60 then Some binary.Shl
    else if nat_eq a 62 && nat_eq b 62 then Some binary.Shr
    else if nat_eq a 61 && nat_eq b 61 then Some binary.Eq
    else if nat_eq a 33 && nat_eq b 61 then Some binary.Neq
    else if nat_eq a 60 && nat_eq b 61 then Some binary.Leq
    else if nat_eq a 62 && nat_eq b 61 then Some binary.Geq
    else None

abbrev pub binary_of : VToken → Option BinaryOp
binary_of (sign b) = binary_sign b
binary_of (double a b) = binary_double a b
binary_of _ = None

-- the operators that signed operands have
abbrev pub signed_op : Option BinaryOp → Option SignedOp
signed_op (Some binary.Div) = Some signed.Div
signed_op (Some binary.Rem) = Some signed.Rem
signed_op (Some binary.Lt) = Some signed.Lt
signed_op (Some binary.Leq) = Some signed.Leq
signed_op (Some binary.Gt) = Some signed.Gt
signed_op (Some binary.Geq) = Some signed.Geq
signed_op _ = None

-- ---- single tokens

abbrev pub same_token : VToken → VToken → Bool
same_token (word v) (word w) = bytes_eq w v
same_token digit_zero digit_zero = true
same_token (sign a) (sign b) = nat_eq b a
same_token (double a b) (double c d) = nat_eq c a && nat_eq d b
same_token signed_word signed_word = true
same_token signed_shift signed_shift = true
same_token _ _ = false

abbrev pub only_if : Bool → List Symbol → Step
only_if true ss = takes ss
only_if false ss = refuses

abbrev pub name_step : VToken → List Symbol → Step
name_step (word w) ss = only_if (is_name w) ss
name_step _ ss = refuses

abbrev pub number_step : VToken → List Symbol → Step
number_step digit_zero ss = takes ss
number_step (number n) ss = takes ss
number_step _ ss = refuses

abbrev pub constant_step : VToken → List Symbol → Step
constant_step (constant w x) ss = takes ss
constant_step _ ss = refuses

-- ---- a module

abbrev pub range_step : VToken → Step
range_step (sign b) = if nat_eq b 91 then takes (a_number ∷ a_token (sign 58) ∷ a_token digit_zero ∷ a_token (sign 93) ∷ []) else skips
range_step _ = skips

abbrev pub mark_step : VToken → Step
mark_step (double a b) = if nat_eq a 40 && nat_eq b 42 then takes (a_token (word (codes "clock")) ∷ a_token (double 42 41) ∷ []) else skips
mark_step _ = skips

abbrev pub by_direction : Option Direction → List Symbol → Step
by_direction (Some d) ss = takes ss
by_direction None ss = refuses

abbrev pub direction_step : VToken → List Symbol → Step
direction_step (word w) ss = by_direction (direction_of w) ss
direction_step _ ss = refuses

-- a port and further ones, or a closing parenthesis
abbrev pub ports_step : VToken → Step
ports_step (sign b) = only_if (nat_eq b 41) []
ports_step (double a b) =
    only_if (nat_eq a 40 && nat_eq b 42) (a_token (word (codes "clock")) ∷ a_token (double 42 41) ∷ a_direction ∷ a_range ∷ a_name ∷ more_ports ∷ [])
ports_step t = direction_step t (a_range ∷ a_name ∷ more_ports ∷ [])

abbrev pub more_ports_step : VToken → Step
more_ports_step (sign b) = if nat_eq b 44 then takes (a_mark ∷ a_direction ∷ a_range ∷ a_name ∷ more_ports ∷ []) else only_if (nat_eq b 41) []
more_ports_step _ = refuses

-- what stands behind the first word of an item
abbrev pub behind_keyword : Keyword → List Symbol
behind_keyword keyword.Wire = a_range ∷ a_name ∷ a_token (sign 59) ∷ []
behind_keyword keyword.Reg = a_range ∷ a_name ∷ behind_register ∷ []
behind_keyword keyword.Assign = a_name ∷ a_token (sign 61) ∷ a_side ∷ a_token (sign 59) ∷ []
behind_keyword keyword.Always = a_token (sign 64) ∷ a_token (sign 40) ∷ a_token (word (codes "posedge")) ∷ a_name ∷ behind_edge ∷ []

abbrev pub by_keyword : Option Keyword → List Symbol → Step
by_keyword (Some k) ss = takes (behind_keyword k ++ ss)
by_keyword None ss = refuses

abbrev pub item_step : VToken → List Symbol → Step
item_step (word w) ss = by_keyword (keyword_of w) ss
item_step _ ss = refuses

abbrev pub items_step : VToken → Step
items_step (word w) = if bytes_eq w (codes "endmodule") then takes [] else by_keyword (keyword_of w) (items ∷ [])
items_step _ = refuses

abbrev pub register_step : VToken → Step
register_step (sign b) =
    if nat_eq b 59 then takes []
    else only_if (nat_eq b 91) (a_token digit_zero ∷ a_token (sign 58) ∷ a_number ∷ a_token (sign 93) ∷ a_token (sign 59) ∷ [])
register_step _ = refuses

-- ---- blocks

-- `<= atom ;`
abbrev pub source : List Symbol → List Symbol
source ss = a_token (double 60 61) ∷ an_atom ∷ a_token (sign 59) ∷ ss

-- `( name ) name <= constant ;`
abbrev pub reset_value : List Symbol → List Symbol
reset_value ss =
    a_token (sign 40) ∷ a_name ∷ a_token (sign 41) ∷ a_name ∷ a_token (double 60 61) ∷ a_constant ∷ a_token (sign 59) ∷ ss

abbrev pub edge_step : VToken → Step
edge_step (sign b) = only_if (nat_eq b 41) (a_block ∷ [])
edge_step (word w) =
    only_if (bytes_eq w (codes "or"))
    (a_token (word (codes "posedge")) ∷ a_name ∷ a_token (sign 41) ∷ a_token (word (codes "if"))
    ∷ reset_value (a_token (word (codes "else")) ∷ a_name ∷ source []))
edge_step _ = refuses

abbrev pub block_step : VToken → Step
block_step (word w) =
    if bytes_eq w (codes "if") then takes (reset_value [])
    else if bytes_eq w (codes "begin") then takes (writes ∷ [])
    else only_if (is_name w) (source [])
block_step _ = refuses

abbrev pub writes_step : VToken → Step
writes_step (word w) =
    if bytes_eq w (codes "if")
    then takes (a_token (sign 40) ∷ an_atom ∷ a_token (sign 41) ∷ a_name ∷ a_token (sign 91) ∷ an_atom ∷ a_token (sign 93) ∷ source (writes ∷ []))
    else only_if (bytes_eq w (codes "end")) []
writes_step _ = refuses

-- ---- operands

abbrev pub atom_step : VToken → List Symbol → Step
atom_step (word w) ss = only_if (is_name w) (a_select ∷ ss)
atom_step (constant w x) ss = takes ss
atom_step (sign b) ss = only_if (nat_eq b 123) (braced ∷ ss)
atom_step _ ss = refuses

abbrev pub select_step : VToken → Step
select_step (sign b) = if nat_eq b 91 then takes (a_number ∷ behind_index ∷ []) else skips
select_step _ = skips

abbrev pub index_step : VToken → Step
index_step (sign b) = if nat_eq b 93 then takes [] else only_if (nat_eq b 58) (a_number ∷ a_token (sign 93) ∷ [])
index_step _ = refuses

-- a repetition, or a concatenation
abbrev pub braced_step : VToken → Step
braced_step digit_zero = takes (a_token (sign 123) ∷ an_atom ∷ a_token (sign 125) ∷ a_token (sign 125) ∷ [])
braced_step (number n) = takes (a_token (sign 123) ∷ an_atom ∷ a_token (sign 125) ∷ a_token (sign 125) ∷ [])
braced_step t = atom_step t (more_atoms ∷ [])

abbrev pub more_atoms_step : VToken → Step
more_atoms_step (sign b) = if nat_eq b 44 then takes (an_atom ∷ more_atoms ∷ []) else only_if (nat_eq b 125) []
more_atoms_step _ = refuses

-- ---- right sides

abbrev pub by_unary : Option UnaryOp → Step → Step
by_unary (Some op) otherwise = takes (an_atom ∷ [])
by_unary None otherwise = otherwise

abbrev pub other_side_step : VToken → Step
other_side_step t = by_unary (unary_of t) (atom_step t (behind_atom ∷ []))

abbrev pub side_step : VToken → Step
side_step (word w) = only_if (is_name w) (behind_side_name ∷ [])
side_step signed_word = takes (a_token (sign 40) ∷ an_atom ∷ a_token (sign 41) ∷ behind_signed ∷ [])
side_step t = other_side_step t

abbrev pub by_binary : Option BinaryOp → Step
by_binary (Some op) = takes (an_atom ∷ [])
by_binary None = skips

abbrev pub behind_atom_step : VToken → Step
behind_atom_step t = if same_token (sign 63) t then takes (an_atom ∷ a_token (sign 58) ∷ an_atom ∷ []) else by_binary (binary_of t)

abbrev pub side_name_step : VToken → Step
side_name_step t = if same_token (sign 91) t then takes (behind_bracket ∷ []) else behind_atom_step t

-- a select, or the read of an array
abbrev pub bracket_step : VToken → Step
bracket_step digit_zero = takes (behind_index ∷ behind_atom ∷ [])
bracket_step (number n) = takes (behind_index ∷ behind_atom ∷ [])
bracket_step t = atom_step t (a_token (sign 93) ∷ [])

abbrev pub by_signed : Option SignedOp → List Symbol → Step
by_signed (Some op) ss = takes ss
by_signed None ss = refuses

abbrev pub signed_step : VToken → Step
signed_step signed_shift = takes (an_atom ∷ [])
signed_step t = by_signed (signed_op (binary_of t)) (a_token signed_word ∷ a_token (sign 40) ∷ an_atom ∷ a_token (sign 41) ∷ [])

-- ---- all together

abbrev pub step : Symbol → VToken → Step
step (a_token g) t = only_if (same_token g t) []
step a_name t = name_step t []
step a_number t = number_step t []
step a_constant t = constant_step t []
step a_range t = range_step t
step a_mark t = mark_step t
step a_direction t = direction_step t []
step ports t = ports_step t
step more_ports t = more_ports_step t
step items t = items_step t
step an_item t = item_step t []
step behind_register t = register_step t
step behind_edge t = edge_step t
step a_block t = block_step t
step writes t = writes_step t
step an_atom t = atom_step t []
step a_select t = select_step t
step behind_index t = index_step t
step braced t = braced_step t
step more_atoms t = more_atoms_step t
step a_side t = side_step t
step other_side t = other_side_step t
step behind_side_name t = side_name_step t
step behind_bracket t = bracket_step t
step behind_atom t = behind_atom_step t
step behind_signed t = signed_step t
step a_signed_operator t = by_signed (signed_op (binary_of t)) []
