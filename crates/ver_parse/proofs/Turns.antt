-- What may be expected in the place of what is, by a test of the token at hand.
use Rattle.std.proofs.Common.{◌≡◌, ℕ, List, [], ◌∷◌, ◌++◌, Bool, true, false, ◌&&◌, not, nat_eq, if◌then◌else◌, Option, Some, None, is_some, codes, refl, sym, ap, ◌∙◌}
use Rattle.std.specs.Str.{bytes_eq}
use Rattle.fir_base.specs.declared.direction.Direction.{Direction}
use Rattle.ver_ast.specs.declared.tree.UnaryOp.{UnaryOp}
use Rattle.ver_parse.specs.declared.keyword.Keyword.{Keyword}
use Rattle.ver_parse.specs.declared.keyword.Keyword.TheVariants.{Wire, Reg, Assign, Always}
use Rattle.ver_ast.specs.declared.tree.BinaryOp.{BinaryOp}
use Rattle.ver_ast.specs.declared.tree.SignedOp.{SignedOp}
use Rattle.ver_ast.specs.Tokens.{VToken, word, digit_zero, number, constant, sign, double, signed_shift, signed_word, question_digit}
use Rattle.ver_parse.specs.working.Symbols.{Symbol, a_token, a_name, a_number, a_constant, a_range, a_mark, a_direction, ports, more_ports, items, an_item, behind_register, behind_edge, a_block, writes, an_atom, a_select, behind_index, braced, more_atoms, a_side, other_side, behind_side_name, behind_bracket, behind_atom, behind_signed, a_signed_operator}
use Rattle.ver_parse.specs.working.Steps.{Step, takes, skips, refuses, step, is_name, only_if, same_token, keyword_of, by_keyword, direction_of, by_direction, unary_of, binary_of, by_unary, by_binary, signed_op, by_signed, source, reset_value, atom_step, behind_atom_step, bracket_step}
use Rattle.ver_parse.specs.working.Reading.{by_step, behind}
use Rattle.ver_parse.specs.working.Fixed.{is_word_token, is_number_token}

-- ---- the module

pub no_range : (t : VToken) → same_token (sign 91) t ≡ false → (todo : List Symbol) → behind (a_range ∷ todo) t ≡ behind todo t
no_range (sign b) h todo = rw h refl
no_range (word w) h todo = refl
no_range digit_zero h todo = refl
no_range (number n) h todo = refl
no_range (constant w x) h todo = refl
no_range (double a b) h todo = refl
no_range signed_shift h todo = refl
no_range signed_word h todo = refl
no_range question_digit h todo = refl

pub no_mark : (t : VToken) → same_token (double 40 42) t ≡ false → (todo : List Symbol) → behind (a_mark ∷ todo) t ≡ behind todo t
no_mark (double a b) h todo = rw h refl
no_mark (sign b) h todo = refl
no_mark (word w) h todo = refl
no_mark digit_zero h todo = refl
no_mark (number n) h todo = refl
no_mark (constant w x) h todo = refl
no_mark signed_shift h todo = refl
no_mark signed_word h todo = refl
no_mark question_digit h todo = refl

marked : (c : Bool) (todo : List Symbol) (a b : ℕ) → (nat_eq a 40 && nat_eq b 42) ≡ c → behind (ports ∷ todo) (double a b) ≡ behind (a_mark ∷ a_direction ∷ a_range ∷ a_name ∷ more_ports ∷ todo) (double a b)
marked true todo a b e = rw e refl
marked false todo a b e = rw e refl

directed : (o : Option Direction) (todo : List Symbol) (a b : Option (List Symbol)) → by_step (by_direction o (a_range ∷ a_name ∷ more_ports ∷ [])) todo a ≡ by_step (by_direction o []) (a_range ∷ a_name ∷ more_ports ∷ todo) b
directed (Some d) todo a b = refl
directed None todo a b = refl

pub some_ports : (t : VToken) → same_token (sign 41) t ≡ false → (todo : List Symbol) → behind (ports ∷ todo) t ≡ behind (a_mark ∷ a_direction ∷ a_range ∷ a_name ∷ more_ports ∷ todo) t
some_ports (sign b) h todo = rw h refl
some_ports (double a b) h todo = marked (nat_eq a 40 && nat_eq b 42) todo a b refl
some_ports (word w) h todo = directed (direction_of w) todo _ _
some_ports digit_zero h todo = refl
some_ports (number n) h todo = refl
some_ports (constant w x) h todo = refl
some_ports signed_shift h todo = refl
some_ports signed_word h todo = refl
some_ports question_digit h todo = refl

-- ---- one of two tokens

only : (c : Bool) (ss todo : List Symbol) (a b : Option (List Symbol)) → by_step (only_if c ss) todo a ≡ by_step (only_if c []) (ss ++ todo) b
only true ss todo a b = refl
only false ss todo a b = refl

pub no_more_ports : (t : VToken) → same_token (sign 44) t ≡ false → (todo : List Symbol) → behind (more_ports ∷ todo) t ≡ behind (a_token (sign 41) ∷ todo) t
no_more_ports (sign b) h todo = rw h refl
no_more_ports (word w) h todo = refl
no_more_ports digit_zero h todo = refl
no_more_ports (number n) h todo = refl
no_more_ports (constant w x) h todo = refl
no_more_ports (double a b) h todo = refl
no_more_ports signed_shift h todo = refl
no_more_ports signed_word h todo = refl
no_more_ports question_digit h todo = refl

keyed : (o : Option Keyword) (todo : List Symbol) (a b : Option (List Symbol)) → by_step (by_keyword o (items ∷ [])) todo a ≡ by_step (by_keyword o []) (items ∷ todo) b
keyed None todo a b = refl
keyed (Some Wire) todo a b = refl
keyed (Some Reg) todo a b = refl
keyed (Some Assign) todo a b = refl
keyed (Some Always) todo a b = refl

pub an_item_more : (t : VToken) → same_token (word (codes "endmodule")) t ≡ false → (todo : List Symbol) → behind (items ∷ todo) t ≡ behind (an_item ∷ items ∷ todo) t
an_item_more (sign b) h todo = refl
an_item_more (word w) h todo = rw h (keyed (keyword_of w) todo _ _)
an_item_more digit_zero h todo = refl
an_item_more (number n) h todo = refl
an_item_more (constant w x) h todo = refl
an_item_more (double a b) h todo = refl
an_item_more signed_shift h todo = refl
an_item_more signed_word h todo = refl
an_item_more question_digit h todo = refl

pub no_register : (t : VToken) → same_token (sign 59) t ≡ false → (todo : List Symbol) → behind (behind_register ∷ todo) t ≡ behind (a_token (sign 91) ∷ a_token digit_zero ∷ a_token (sign 58) ∷ a_number ∷ a_token (sign 93) ∷ a_token (sign 59) ∷ todo) t
no_register (sign b) h todo = rw h (only (nat_eq b 91) (a_token digit_zero ∷ a_token (sign 58) ∷ a_number ∷ a_token (sign 93) ∷ a_token (sign 59) ∷ []) todo _ _)
no_register (word w) h todo = refl
no_register digit_zero h todo = refl
no_register (number n) h todo = refl
no_register (constant w x) h todo = refl
no_register (double a b) h todo = refl
no_register signed_shift h todo = refl
no_register signed_word h todo = refl
no_register question_digit h todo = refl

pub no_block : (t : VToken) → same_token (sign 41) t ≡ false → (todo : List Symbol) → behind (behind_edge ∷ todo) t ≡ behind (a_token (word (codes "or")) ∷ a_token (word (codes "posedge")) ∷ a_name ∷ a_token (sign 41) ∷ a_token (word (codes "if")) ∷ reset_value (a_token (word (codes "else")) ∷ a_name ∷ source todo)) t
no_block (sign b) h todo = rw h refl
no_block (word w) h todo = only (bytes_eq w (codes "or")) (a_token (word (codes "posedge")) ∷ a_name ∷ a_token (sign 41) ∷ a_token (word (codes "if")) ∷ reset_value (a_token (word (codes "else")) ∷ a_name ∷ source [])) todo _ _
no_block digit_zero h todo = refl
no_block (number n) h todo = refl
no_block (constant w x) h todo = refl
no_block (double a b) h todo = refl
no_block signed_shift h todo = refl
no_block signed_word h todo = refl
no_block question_digit h todo = refl

pub no_write : (t : VToken) → same_token (word (codes "if")) t ≡ false → (todo : List Symbol) → behind (writes ∷ todo) t ≡ behind (a_token (word (codes "end")) ∷ todo) t
no_write (sign b) h todo = refl
no_write (word w) h todo = rw h refl
no_write digit_zero h todo = refl
no_write (number n) h todo = refl
no_write (constant w x) h todo = refl
no_write (double a b) h todo = refl
no_write signed_shift h todo = refl
no_write signed_word h todo = refl
no_write question_digit h todo = refl

pub no_select : (t : VToken) → same_token (sign 91) t ≡ false → (todo : List Symbol) → behind (a_select ∷ todo) t ≡ behind (todo) t
no_select (sign b) h todo = rw h refl
no_select (word w) h todo = refl
no_select digit_zero h todo = refl
no_select (number n) h todo = refl
no_select (constant w x) h todo = refl
no_select (double a b) h todo = refl
no_select signed_shift h todo = refl
no_select signed_word h todo = refl
no_select question_digit h todo = refl

pub no_end : (t : VToken) → same_token (sign 93) t ≡ false → (todo : List Symbol) → behind (behind_index ∷ todo) t ≡ behind (a_token (sign 58) ∷ a_number ∷ a_token (sign 93) ∷ todo) t
no_end (sign b) h todo = rw h (only (nat_eq b 58) (a_number ∷ a_token (sign 93) ∷ []) todo _ _)
no_end (word w) h todo = refl
no_end digit_zero h todo = refl
no_end (number n) h todo = refl
no_end (constant w x) h todo = refl
no_end (double a b) h todo = refl
no_end signed_shift h todo = refl
no_end signed_word h todo = refl
no_end question_digit h todo = refl

pub repeated : (t : VToken) → is_number_token t ≡ true → (todo : List Symbol) → behind (braced ∷ todo) t ≡ behind (a_number ∷ a_token (sign 123) ∷ an_atom ∷ a_token (sign 125) ∷ a_token (sign 125) ∷ todo) t
repeated (sign b) h todo = absurd (cc)
repeated (word w) h todo = absurd (cc)
repeated digit_zero h todo = refl
repeated (number n) h todo = refl
repeated (constant w x) h todo = absurd (cc)
repeated (double a b) h todo = absurd (cc)
repeated signed_shift h todo = absurd (cc)
repeated signed_word h todo = absurd (cc)
repeated question_digit h todo = absurd (cc)

atoms_on : (c : Bool) (s : Symbol) (ss todo : List Symbol) (a b : Option (List Symbol)) → by_step (only_if c (s ∷ ss)) todo a ≡ by_step (only_if c (s ∷ [])) (ss ++ todo) b
atoms_on true s ss todo a b = refl
atoms_on false s ss todo a b = refl

pub concatenated : (t : VToken) → is_number_token t ≡ false → (todo : List Symbol) → behind (braced ∷ todo) t ≡ behind (an_atom ∷ more_atoms ∷ todo) t
concatenated (sign b) h todo = atoms_on (nat_eq b 123) braced (more_atoms ∷ []) todo _ _
concatenated (word w) h todo = atoms_on (is_name w) a_select (more_atoms ∷ []) todo _ _
concatenated digit_zero h todo = absurd (cc)
concatenated (number n) h todo = absurd (cc)
concatenated (constant w x) h todo = refl
concatenated (double a b) h todo = refl
concatenated signed_shift h todo = refl
concatenated signed_word h todo = refl
concatenated question_digit h todo = refl

pub no_more_atoms : (t : VToken) → same_token (sign 44) t ≡ false → (todo : List Symbol) → behind (more_atoms ∷ todo) t ≡ behind (a_token (sign 125) ∷ todo) t
no_more_atoms (sign b) h todo = rw h refl
no_more_atoms (word w) h todo = refl
no_more_atoms digit_zero h todo = refl
no_more_atoms (number n) h todo = refl
no_more_atoms (constant w x) h todo = refl
no_more_atoms (double a b) h todo = refl
no_more_atoms signed_shift h todo = refl
no_more_atoms signed_word h todo = refl
no_more_atoms question_digit h todo = refl

pub named_atom : (t : VToken) → is_word_token t ≡ true → (todo : List Symbol) → behind (an_atom ∷ todo) t ≡ behind (a_name ∷ a_select ∷ todo) t
named_atom (sign b) h todo = absurd (cc)
named_atom (word w) h todo = only (is_name w) (a_select ∷ []) todo _ _
named_atom digit_zero h todo = absurd (cc)
named_atom (number n) h todo = absurd (cc)
named_atom (constant w x) h todo = absurd (cc)
named_atom (double a b) h todo = absurd (cc)
named_atom signed_shift h todo = absurd (cc)
named_atom signed_word h todo = absurd (cc)
named_atom question_digit h todo = absurd (cc)

pub named_side : (t : VToken) → is_word_token t ≡ true → (todo : List Symbol) → behind (a_side ∷ todo) t ≡ behind (a_name ∷ behind_side_name ∷ todo) t
named_side (sign b) h todo = absurd (cc)
named_side (word w) h todo = only (is_name w) (behind_side_name ∷ []) todo _ _
named_side digit_zero h todo = absurd (cc)
named_side (number n) h todo = absurd (cc)
named_side (constant w x) h todo = absurd (cc)
named_side (double a b) h todo = absurd (cc)
named_side signed_shift h todo = absurd (cc)
named_side signed_word h todo = absurd (cc)
named_side question_digit h todo = absurd (cc)

pub no_side_select : (t : VToken) → same_token (sign 91) t ≡ false → (todo : List Symbol) → behind (behind_side_name ∷ todo) t ≡ behind (behind_atom ∷ todo) t
no_side_select (sign b) h todo = rw h refl
no_side_select (word w) h todo = refl
no_side_select digit_zero h todo = refl
no_side_select (number n) h todo = refl
no_side_select (constant w x) h todo = refl
no_side_select (double a b) h todo = refl
no_side_select signed_shift h todo = refl
no_side_select signed_word h todo = refl
no_side_select question_digit h todo = refl

pub selected_side : (t : VToken) → is_number_token t ≡ true → (todo : List Symbol) → behind (behind_bracket ∷ todo) t ≡ behind (a_number ∷ behind_index ∷ behind_atom ∷ todo) t
selected_side (sign b) h todo = absurd (cc)
selected_side (word w) h todo = absurd (cc)
selected_side digit_zero h todo = refl
selected_side (number n) h todo = refl
selected_side (constant w x) h todo = absurd (cc)
selected_side (double a b) h todo = absurd (cc)
selected_side signed_shift h todo = absurd (cc)
selected_side signed_word h todo = absurd (cc)
selected_side question_digit h todo = absurd (cc)

pub read_side : (t : VToken) → is_number_token t ≡ false → (todo : List Symbol) → behind (behind_bracket ∷ todo) t ≡ behind (an_atom ∷ a_token (sign 93) ∷ todo) t
read_side (sign b) h todo = atoms_on (nat_eq b 123) braced (a_token (sign 93) ∷ []) todo _ _
read_side (word w) h todo = atoms_on (is_name w) a_select (a_token (sign 93) ∷ []) todo _ _
read_side digit_zero h todo = absurd (cc)
read_side (number n) h todo = absurd (cc)
read_side (constant w x) h todo = refl
read_side (double a b) h todo = refl
read_side signed_shift h todo = refl
read_side signed_word h todo = refl
read_side question_digit h todo = refl

signed_on : (o : Option SignedOp) (todo : List Symbol) (a b : Option (List Symbol))
    → by_step (by_signed o (a_token signed_word ∷ a_token (sign 40) ∷ an_atom ∷ a_token (sign 41) ∷ [])) todo a
    ≡ by_step (by_signed o []) (a_token signed_word ∷ a_token (sign 40) ∷ an_atom ∷ a_token (sign 41) ∷ todo) b
signed_on (Some op) todo a b = refl
signed_on None todo a b = refl

pub no_signed_shift : (t : VToken) → same_token signed_shift t ≡ false → (todo : List Symbol) → behind (behind_signed ∷ todo) t ≡ behind (a_signed_operator ∷ a_token signed_word ∷ a_token (sign 40) ∷ an_atom ∷ a_token (sign 41) ∷ todo) t
no_signed_shift (sign b) h todo = signed_on (signed_op (binary_of (sign b))) todo _ _
no_signed_shift (word w) h todo = refl
no_signed_shift digit_zero h todo = refl
no_signed_shift (number n) h todo = refl
no_signed_shift (constant w x) h todo = refl
no_signed_shift (double a b) h todo = signed_on (signed_op (binary_of (double a b))) todo _ _
no_signed_shift signed_shift h todo = absurd (cc)
no_signed_shift signed_word h todo = refl
no_signed_shift question_digit h todo = refl

unary_none : (o : Option UnaryOp) (t : VToken) (todo : List Symbol) → is_some o ≡ false → by_step (by_unary o (atom_step t (behind_atom ∷ []))) todo (behind todo t) ≡ by_step (atom_step t (behind_atom ∷ [])) todo (behind todo t)
unary_none None t todo h = refl
unary_none (Some op) t todo h = absurd (cc)

sided : (t : VToken) (todo : List Symbol) → by_step (atom_step t (behind_atom ∷ [])) todo (behind todo t) ≡ behind (an_atom ∷ behind_atom ∷ todo) t
sided (sign b) todo = atoms_on (nat_eq b 123) braced (behind_atom ∷ []) todo _ _
sided (word w) todo = atoms_on (is_name w) a_select (behind_atom ∷ []) todo _ _
sided digit_zero todo = refl
sided (number n) todo = refl
sided (constant w x) todo = refl
sided (double a b) todo = refl
sided signed_shift todo = refl
sided signed_word todo = refl
sided question_digit todo = refl

pub no_unary : (t : VToken) → is_some (unary_of t) ≡ false → (todo : List Symbol) → behind (other_side ∷ todo) t ≡ behind (an_atom ∷ behind_atom ∷ todo) t
no_unary t h todo = unary_none (unary_of t) t todo h ∙ sided t todo

-- ---- two tests

pub plain_block : (t : VToken) → same_token (word (codes "if")) t ≡ false → same_token (word (codes "begin")) t ≡ false → (todo : List Symbol) → behind (a_block ∷ todo) t ≡ behind (a_name ∷ source todo) t
plain_block (word w) h k todo = rw (h, k) (only (is_name w) (source []) todo _ _)
plain_block (sign b) h k todo = refl
plain_block digit_zero h k todo = refl
plain_block (number n) h k todo = refl
plain_block (constant w x) h k todo = refl
plain_block (double a b) h k todo = refl
plain_block signed_shift h k todo = refl
plain_block signed_word h k todo = refl
plain_block question_digit h k todo = refl

pub constant_atom : (t : VToken) → same_token (sign 123) t ≡ false → is_word_token t ≡ false → (todo : List Symbol) → behind (an_atom ∷ todo) t ≡ behind (a_constant ∷ todo) t
constant_atom (sign b) h k todo = rw h refl
constant_atom (word w) h k todo = absurd (cc)
constant_atom digit_zero h k todo = refl
constant_atom (number n) h k todo = refl
constant_atom (constant w x) h k todo = refl
constant_atom (double a b) h k todo = refl
constant_atom signed_shift h k todo = refl
constant_atom signed_word h k todo = refl
constant_atom question_digit h k todo = refl

pub not_signed : (t : VToken) → is_word_token t ≡ false → same_token signed_word t ≡ false → (todo : List Symbol) → behind (a_side ∷ todo) t ≡ behind (other_side ∷ todo) t
not_signed (word w) h k todo = absurd (cc)
not_signed signed_word h k todo = absurd (cc)
not_signed (sign b) h k todo = refl
not_signed digit_zero h k todo = refl
not_signed (number n) h k todo = refl
not_signed (constant w x) h k todo = refl
not_signed (double a b) h k todo = refl
not_signed signed_shift h k todo = refl
not_signed question_digit h k todo = refl

binary_none : (o : Option BinaryOp) (todo : List Symbol) (rest : Option (List Symbol)) → is_some o ≡ false → by_step (by_binary o) todo rest ≡ rest
binary_none None todo rest h = refl
binary_none (Some op) todo rest h = absurd (cc)

pub no_binary : (t : VToken) → same_token (sign 63) t ≡ false → is_some (binary_of t) ≡ false → (todo : List Symbol) → behind (behind_atom ∷ todo) t ≡ behind todo t
no_binary t h k todo =
    ap (λ (c : Bool). by_step (if c then takes (an_atom ∷ a_token (sign 58) ∷ an_atom ∷ []) else by_binary (binary_of t)) todo (behind todo t)) h ∙ binary_none (binary_of t) todo (behind todo t) k

-- ---- one token that is not expected

pub other_token : (g t : VToken) → same_token g t ≡ false → step (a_token g) t ≡ refuses
other_token g t h = ap (λ (c : Bool). only_if c []) h

unfoldable pub is_name_token : VToken → Bool
is_name_token (word w) = is_name w
is_name_token _ = false

pub no_name : (t : VToken) → is_name_token t ≡ false → step a_name t ≡ refuses
unfolding is_name_token
no_name (word w) h = ap (λ (c : Bool). only_if c []) h
no_name (sign b) h = refl
no_name digit_zero h = refl
no_name (number n) h = refl
no_name (constant w x) h = refl
no_name (double a b) h = refl
no_name signed_shift h = refl
no_name signed_word h = refl
no_name question_digit h = refl

pub no_number : (t : VToken) → is_number_token t ≡ false → step a_number t ≡ refuses
no_number digit_zero h = absurd (cc)
no_number (number n) h = absurd (cc)
no_number (word w) h = refl
no_number (sign b) h = refl
no_number (constant w x) h = refl
no_number (double a b) h = refl
no_number signed_shift h = refl
no_number signed_word h = refl
no_number question_digit h = refl

unfoldable pub is_constant_token : VToken → Bool
is_constant_token (constant w x) = true
is_constant_token _ = false

pub no_constant : (t : VToken) → is_constant_token t ≡ false → step a_constant t ≡ refuses
unfolding is_constant_token
no_constant (constant w x) h = absurd (cc)
no_constant digit_zero h = refl
no_constant (number n) h = refl
no_constant (word w) h = refl
no_constant (sign b) h = refl
no_constant (double a b) h = refl
no_constant signed_shift h = refl
no_constant signed_word h = refl
no_constant question_digit h = refl
