-- The tokens of operands and right sides are read.
use Rattle.std.proofs.Common.{◌≡◌, ℕ, List, [], ◌∷◌, ◌++◌, Bool, true, false, Option, Some, None, is_some, refl, sym, ap, ◌∙◌, append_assoc}
use Rattle.fir_base.proofs.Each.{all_left, all_right}
use Rattle.ver_words.specs.Names.{IsName}
use Rattle.ver_ast.specs.declared.tree.UnaryOp.{UnaryOp}
use Rattle.ver_ast.specs.declared.tree.UnaryOp.TheVariants as unary
use Rattle.ver_ast.specs.declared.tree.BinaryOp.{BinaryOp}
use Rattle.ver_ast.specs.declared.tree.BinaryOp.TheVariants as binary
use Rattle.ver_ast.specs.declared.tree.SignedOp.{SignedOp}
use Rattle.ver_ast.specs.declared.tree.SignedOp.TheVariants as signed
use Rattle.ver_ast.specs.declared.tree.Rhs.{Rhs}
use Rattle.ver_ast.specs.declared.tree.Rhs.TheVariants as rhs
use Rattle.ver_ast.specs.Atoms as atom
use Rattle.ver_ast.specs.Atoms.{AtomTree, AtomTrees}
use Rattle.ver_ast.specs.Grammar.{atom_tokens, next_atom_tokens, unary_sign, binary_token, unsigned_op, signed_tokens, rhs_tokens}
use Rattle.ver_ast.specs.ItemNames.{rhs_arrays}
use Rattle.ver_ast.specs.Names.{atom_names, joined_names, rhs_names}
use Rattle.ver_ast.specs.Spells.{AreVerilogNames}
use Rattle.ver_ast.specs.Tokens.{VToken, word, number, constant, sign, signed_shift, signed_word}
use Rattle.ver_parse.specs.working.Symbols.{Symbol, a_token, an_atom, a_select, braced, more_atoms, a_side, behind_side_name, behind_bracket, behind_atom, behind_signed}
use Rattle.ver_parse.specs.working.Steps.{Step, takes, same_token, step}
use Rattle.ver_parse.specs.working.Reading.{behind}
use Rattle.ver_parse.specs.working.Fixed.{is_number_token}
use Rattle.ver_parse.proofs.Heads.{binary_behind}
use Rattle.ver_parse.proofs.Passing.{reads, taken, reads_alike, name_taken}
use Rattle.ver_parse.proofs.Turns.{no_select, no_side_select, concatenated, read_side}

-- the first token of what follows is no bracket
abbrev pub Unbracketed : List VToken → Type 0
Unbracketed [] = ⊥
Unbracketed (t ∷ ts) = same_token (sign 91) t ≡ false

select_reads : (todo : List Symbol) (rest : List VToken) → Unbracketed rest → reads (a_select ∷ todo) rest ≡ reads todo rest
select_reads todo [] h = absurd h
select_reads todo (t ∷ ts) h = reads_alike (a_select ∷ todo) todo t ts (no_select t h todo)

more_unbracketed : (more : AtomTrees) (rest : List VToken) → Unbracketed (next_atom_tokens more ++ sign 125 ∷ rest)
more_unbracketed atom.no_atoms rest = refl
more_unbracketed (atom.atom_before a more) rest = refl

-- no operand begins with a number
other_than_number : (todo other : List Symbol) (a : AtomTree) (rest : List VToken) → ((t : VToken) → is_number_token t ≡ false → behind todo t ≡ behind other t)
    → reads todo (atom_tokens a ++ rest) ≡ reads other (atom_tokens a ++ rest)
other_than_number todo other (atom.net n) rest same = reads_alike todo other (word n) _ (same (word n) refl)
other_than_number todo other (atom.constant w x) rest same = reads_alike todo other (constant w x) _ (same (constant w x) refl)
other_than_number todo other (atom.bit_select n i) rest same = reads_alike todo other (word n) _ (same (word n) refl)
other_than_number todo other (atom.part_select n high low) rest same = reads_alike todo other (word n) _ (same (word n) refl)
other_than_number todo other (atom.concat a more) rest same = reads_alike todo other (sign 123) _ (same (sign 123) refl)
other_than_number todo other (atom.repeat count a) rest same = reads_alike todo other (sign 123) _ (same (sign 123) refl)

bit_reads : (todo : List Symbol) (i : ℕ) (rest : List VToken) → reads (a_select ∷ todo) (sign 91 ∷ number i ∷ sign 93 ∷ rest) ≡ reads todo rest
unfolding reads
bit_reads todo i rest = refl

part_reads : (todo : List Symbol) (high low : ℕ) (rest : List VToken) → reads (a_select ∷ todo) (sign 91 ∷ number high ∷ sign 58 ∷ number low ∷ sign 93 ∷ rest) ≡ reads todo rest
unfolding reads
part_reads todo high low rest = refl

constant_reads : (todo : List Symbol) (w x : ℕ) (rest : List VToken) → reads (an_atom ∷ todo) (constant w x ∷ rest) ≡ reads todo rest
unfolding reads
constant_reads todo w x rest = refl

open_reads : (todo : List Symbol) (rest : List VToken) → reads (an_atom ∷ todo) (sign 123 ∷ rest) ≡ reads (braced ∷ todo) rest
unfolding reads
open_reads todo rest = refl

count_reads : (todo : List Symbol) (n : ℕ) (rest : List VToken) → reads (braced ∷ todo) (number n ∷ sign 123 ∷ rest) ≡ reads (an_atom ∷ a_token (sign 125) ∷ a_token (sign 125) ∷ todo) rest
unfolding reads
count_reads todo n rest = refl

token_reads : (todo : List Symbol) (b : ℕ) (rest : List VToken) → step (a_token (sign b)) (sign b) ≡ takes [] → reads (a_token (sign b) ∷ todo) (sign b ∷ rest) ≡ reads todo rest
token_reads todo b rest e = taken (a_token (sign b)) [] (sign b) todo rest e

last_reads : (todo : List Symbol) (rest : List VToken) → reads (more_atoms ∷ todo) (sign 125 ∷ rest) ≡ reads todo rest
unfolding reads
last_reads todo rest = refl

next_reads : (todo : List Symbol) (rest : List VToken) → reads (more_atoms ∷ todo) (sign 44 ∷ rest) ≡ reads (an_atom ∷ more_atoms ∷ todo) rest
unfolding reads
next_reads todo rest = refl

net_reads : (n : List ℕ) (todo : List Symbol) (rest : List VToken) → IsName n → reads (an_atom ∷ todo) (word n ∷ rest) ≡ reads (a_select ∷ todo) rest
net_reads n todo rest h = name_taken an_atom (a_select ∷ []) n todo rest h refl

mutual
  pub atom_reads : (a : AtomTree) (todo : List Symbol) (rest : List VToken) → AreVerilogNames (atom_names a) → Unbracketed rest → reads (an_atom ∷ todo) (atom_tokens a ++ rest) ≡ reads todo rest
  atom_reads (atom.net n) todo rest h u = net_reads n todo rest h.0 ∙ select_reads todo rest u
  atom_reads (atom.constant w x) todo rest h u = constant_reads todo w x rest
  atom_reads (atom.bit_select n i) todo rest h u = net_reads n todo (sign 91 ∷ number i ∷ sign 93 ∷ rest) h.0 ∙ bit_reads todo i rest
  atom_reads (atom.part_select n high low) todo rest h u = net_reads n todo (sign 91 ∷ number high ∷ sign 58 ∷ number low ∷ sign 93 ∷ rest) h.0 ∙ part_reads todo high low rest
  atom_reads (atom.concat a more) todo rest h u =
      open_reads todo ((atom_tokens a ++ next_atom_tokens more ++ sign 125 ∷ []) ++ rest)
      ∙ ap (λ l. reads (braced ∷ todo) l) (append_assoc (atom_tokens a ++ next_atom_tokens more) (sign 125 ∷ []) rest ∙ append_assoc (atom_tokens a) (next_atom_tokens more) (sign 125 ∷ rest))
      ∙ other_than_number (braced ∷ todo) (an_atom ∷ more_atoms ∷ todo) a (next_atom_tokens more ++ sign 125 ∷ rest) (λ t e. concatenated t e todo)
      ∙ atom_reads a (more_atoms ∷ todo) (next_atom_tokens more ++ sign 125 ∷ rest) (all_left IsName (atom_names a) (joined_names more) h) (more_unbracketed more rest)
      ∙ more_reads more todo rest (all_right IsName (atom_names a) (joined_names more) h)
  atom_reads (atom.repeat count a) todo rest h u =
      open_reads todo (number count ∷ sign 123 ∷ (atom_tokens a ++ sign 125 ∷ sign 125 ∷ []) ++ rest)
      ∙ count_reads todo count ((atom_tokens a ++ sign 125 ∷ sign 125 ∷ []) ++ rest)
      ∙ ap (λ l. reads (an_atom ∷ a_token (sign 125) ∷ a_token (sign 125) ∷ todo) l) (append_assoc (atom_tokens a) (sign 125 ∷ sign 125 ∷ []) rest)
      ∙ atom_reads a (a_token (sign 125) ∷ a_token (sign 125) ∷ todo) (sign 125 ∷ sign 125 ∷ rest) h refl
      ∙ token_reads (a_token (sign 125) ∷ todo) 125 (sign 125 ∷ rest) refl
      ∙ token_reads todo 125 rest refl

  more_reads : (more : AtomTrees) (todo : List Symbol) (rest : List VToken) → AreVerilogNames (joined_names more) → reads (more_atoms ∷ todo) (next_atom_tokens more ++ sign 125 ∷ rest) ≡ reads todo rest
  more_reads atom.no_atoms todo rest h = last_reads todo rest
  more_reads (atom.atom_before a more) todo rest h =
      next_reads todo ((atom_tokens a ++ next_atom_tokens more) ++ sign 125 ∷ rest)
      ∙ ap (λ l. reads (an_atom ∷ more_atoms ∷ todo) l) (append_assoc (atom_tokens a) (next_atom_tokens more) (sign 125 ∷ rest))
      ∙ atom_reads a (more_atoms ∷ todo) (next_atom_tokens more ++ sign 125 ∷ rest) (all_left IsName (atom_names a) (joined_names more) h) (more_unbracketed more rest)
      ∙ more_reads more todo rest (all_right IsName (atom_names a) (joined_names more) h)

-- ---- right sides

-- a first operand, and no bracket behind it
first_name : (n : List ℕ) (todo : List Symbol) (rest : List VToken) → IsName n → reads (a_side ∷ todo) (word n ∷ rest) ≡ reads (behind_side_name ∷ todo) rest
first_name n todo rest h = name_taken a_side (behind_side_name ∷ []) n todo rest h refl

no_side_bracket : (todo : List Symbol) (rest : List VToken) → Unbracketed rest → reads (behind_side_name ∷ todo) rest ≡ reads (behind_atom ∷ todo) rest
no_side_bracket todo [] h = absurd h
no_side_bracket todo (t ∷ ts) h = reads_alike (behind_side_name ∷ todo) (behind_atom ∷ todo) t ts (no_side_select t h todo)

first_bit : (todo : List Symbol) (i : ℕ) (rest : List VToken) → reads (behind_side_name ∷ todo) (sign 91 ∷ number i ∷ sign 93 ∷ rest) ≡ reads (behind_atom ∷ todo) rest
unfolding reads
first_bit todo i rest = refl

first_part : (todo : List Symbol) (high low : ℕ) (rest : List VToken) → reads (behind_side_name ∷ todo) (sign 91 ∷ number high ∷ sign 58 ∷ number low ∷ sign 93 ∷ rest) ≡ reads (behind_atom ∷ todo) rest
unfolding reads
first_part todo high low rest = refl

first_constant : (todo : List Symbol) (w x : ℕ) (rest : List VToken) → reads (a_side ∷ todo) (constant w x ∷ rest) ≡ reads (behind_atom ∷ todo) rest
unfolding reads
first_constant todo w x rest = refl

first_brace : (todo : List Symbol) (rest : List VToken) → reads (a_side ∷ todo) (sign 123 ∷ rest) ≡ reads (an_atom ∷ behind_atom ∷ todo) (sign 123 ∷ rest)
unfolding reads
first_brace todo rest = refl

first_reads : (a : AtomTree) (todo : List Symbol) (rest : List VToken) → AreVerilogNames (atom_names a) → Unbracketed rest → reads (a_side ∷ todo) (atom_tokens a ++ rest) ≡ reads (behind_atom ∷ todo) rest
first_reads (atom.net n) todo rest h u = first_name n todo rest h.0 ∙ no_side_bracket todo rest u
first_reads (atom.constant w x) todo rest h u = first_constant todo w x rest
first_reads (atom.bit_select n i) todo rest h u = first_name n todo (sign 91 ∷ number i ∷ sign 93 ∷ rest) h.0 ∙ first_bit todo i rest
first_reads (atom.part_select n high low) todo rest h u = first_name n todo (sign 91 ∷ number high ∷ sign 58 ∷ number low ∷ sign 93 ∷ rest) h.0 ∙ first_part todo high low rest
first_reads (atom.concat a more) todo rest h u = first_brace todo ((atom_tokens a ++ next_atom_tokens more ++ sign 125 ∷ []) ++ rest) ∙ atom_reads (atom.concat a more) (behind_atom ∷ todo) rest h u
first_reads (atom.repeat count a) todo rest h u = first_brace todo (number count ∷ sign 123 ∷ (atom_tokens a ++ sign 125 ∷ sign 125 ∷ []) ++ rest) ∙ atom_reads (atom.repeat count a) (behind_atom ∷ todo) rest h u

binary_unbracketed : (op : BinaryOp) → same_token (sign 91) (binary_token op) ≡ false
binary_unbracketed binary.Add = refl
binary_unbracketed binary.Sub = refl
binary_unbracketed binary.Mul = refl
binary_unbracketed binary.Div = refl
binary_unbracketed binary.Rem = refl
binary_unbracketed binary.And = refl
binary_unbracketed binary.Or = refl
binary_unbracketed binary.Xor = refl
binary_unbracketed binary.Shl = refl
binary_unbracketed binary.Shr = refl
binary_unbracketed binary.Eq = refl
binary_unbracketed binary.Neq = refl
binary_unbracketed binary.Lt = refl
binary_unbracketed binary.Leq = refl
binary_unbracketed binary.Gt = refl
binary_unbracketed binary.Geq = refl

unary_side : (op : UnaryOp) → step a_side (sign (unary_sign op)) ≡ takes (an_atom ∷ [])
unary_side unary.Not = refl
unary_side unary.And = refl
unary_side unary.Or = refl
unary_side unary.Xor = refl

signed_behind : (op : SignedOp) → step behind_signed (binary_token (unsigned_op op)) ≡ takes (a_token signed_word ∷ a_token (sign 40) ∷ an_atom ∷ a_token (sign 41) ∷ [])
signed_behind signed.Div = refl
signed_behind signed.Rem = refl
signed_behind signed.Lt = refl
signed_behind signed.Leq = refl
signed_behind signed.Gt = refl
signed_behind signed.Geq = refl

-- behind a right side that may end there
side_ends : (todo : List Symbol) (rest : List VToken) → reads (behind_atom ∷ todo) (sign 59 ∷ rest) ≡ reads todo (sign 59 ∷ rest)
unfolding reads
side_ends todo rest = refl

signed_begins : (todo : List Symbol) (rest : List VToken) → reads (a_side ∷ todo) (signed_word ∷ sign 40 ∷ rest) ≡ reads (an_atom ∷ a_token (sign 41) ∷ behind_signed ∷ todo) rest
unfolding reads
signed_begins todo rest = refl

signed_first : (a : AtomTree) (todo : List Symbol) (rest : List VToken) → AreVerilogNames (atom_names a) → reads (a_side ∷ todo) (signed_tokens a ++ rest) ≡ reads (behind_signed ∷ todo) rest
signed_first a todo rest h =
    signed_begins todo ((atom_tokens a ++ sign 41 ∷ []) ++ rest)
    ∙ ap (λ l. reads (an_atom ∷ a_token (sign 41) ∷ behind_signed ∷ todo) l) (append_assoc (atom_tokens a) (sign 41 ∷ []) rest)
    ∙ atom_reads a (a_token (sign 41) ∷ behind_signed ∷ todo) (sign 41 ∷ rest) h refl
    ∙ token_reads (behind_signed ∷ todo) 41 rest refl

signed_goes_on : (todo : List Symbol) (rest : List VToken) → reads (a_token signed_word ∷ a_token (sign 40) ∷ an_atom ∷ a_token (sign 41) ∷ todo) (signed_word ∷ sign 40 ∷ rest) ≡ reads (an_atom ∷ a_token (sign 41) ∷ todo) rest
unfolding reads
signed_goes_on todo rest = refl

signed_second : (a : AtomTree) (todo : List Symbol) (rest : List VToken) → AreVerilogNames (atom_names a) → reads (a_token signed_word ∷ a_token (sign 40) ∷ an_atom ∷ a_token (sign 41) ∷ todo) (signed_tokens a ++ rest) ≡ reads todo rest
signed_second a todo rest h =
    signed_goes_on todo ((atom_tokens a ++ sign 41 ∷ []) ++ rest)
    ∙ ap (λ l. reads (an_atom ∷ a_token (sign 41) ∷ todo) l) (append_assoc (atom_tokens a) (sign 41 ∷ []) rest)
    ∙ atom_reads a (a_token (sign 41) ∷ todo) (sign 41 ∷ rest) h refl
    ∙ token_reads todo 41 rest refl

shift_reads : (todo : List Symbol) (rest : List VToken) → reads (behind_signed ∷ todo) (signed_shift ∷ rest) ≡ reads (an_atom ∷ todo) rest
unfolding reads
shift_reads todo rest = refl

question_reads : (todo : List Symbol) (rest : List VToken) → reads (behind_atom ∷ todo) (sign 63 ∷ rest) ≡ reads (an_atom ∷ a_token (sign 58) ∷ an_atom ∷ todo) rest
unfolding reads
question_reads todo rest = refl

bracket_reads : (todo : List Symbol) (rest : List VToken) → reads (behind_side_name ∷ todo) (sign 91 ∷ rest) ≡ reads (behind_bracket ∷ todo) rest
unfolding reads
bracket_reads todo rest = refl

-- before a semicolon
pub side_reads : (r : Rhs) (todo : List Symbol) (rest : List VToken) → AreVerilogNames (rhs_arrays r ++ rhs_names r) → reads (a_side ∷ todo) (rhs_tokens r ++ sign 59 ∷ rest) ≡ reads todo (sign 59 ∷ rest)
side_reads (rhs.Atom a) todo rest h = first_reads a todo (sign 59 ∷ rest) (all_left IsName (atom_names a) [] h) refl ∙ side_ends todo rest
side_reads (rhs.Unary op a) todo rest h =
    taken a_side (an_atom ∷ []) (sign (unary_sign op)) todo (atom_tokens a ++ sign 59 ∷ rest) (unary_side op) ∙ atom_reads a todo (sign 59 ∷ rest) (all_left IsName (atom_names a) [] h) refl
side_reads (rhs.Binary a op b) todo rest h =
    ap (λ l. reads (a_side ∷ todo) l) (append_assoc (atom_tokens a) (binary_token op ∷ atom_tokens b) (sign 59 ∷ rest))
    ∙ first_reads a todo (binary_token op ∷ atom_tokens b ++ sign 59 ∷ rest) (all_left IsName (atom_names a) (atom_names b ++ []) h) (binary_unbracketed op)
    ∙ taken behind_atom (an_atom ∷ []) (binary_token op) todo (atom_tokens b ++ sign 59 ∷ rest) (binary_behind op)
    ∙ atom_reads b todo (sign 59 ∷ rest) (all_left IsName (atom_names b) [] (all_right IsName (atom_names a) (atom_names b ++ []) h)) refl
side_reads (rhs.Signed a op b) todo rest h =
    ap (λ l. reads (a_side ∷ todo) l) (append_assoc (signed_tokens a) (binary_token (unsigned_op op) ∷ signed_tokens b) (sign 59 ∷ rest))
    ∙ signed_first a todo (binary_token (unsigned_op op) ∷ signed_tokens b ++ sign 59 ∷ rest) (all_left IsName (atom_names a) (atom_names b ++ []) h)
    ∙ taken behind_signed _ (binary_token (unsigned_op op)) todo (signed_tokens b ++ sign 59 ∷ rest) (signed_behind op)
    ∙ signed_second b todo (sign 59 ∷ rest) (all_left IsName (atom_names b) [] (all_right IsName (atom_names a) (atom_names b ++ []) h))
side_reads (rhs.SignedShift a b) todo rest h =
    ap (λ l. reads (a_side ∷ todo) l) (append_assoc (signed_tokens a) (signed_shift ∷ atom_tokens b) (sign 59 ∷ rest))
    ∙ signed_first a todo (signed_shift ∷ atom_tokens b ++ sign 59 ∷ rest) (all_left IsName (atom_names a) (atom_names b ++ []) h)
    ∙ shift_reads todo (atom_tokens b ++ sign 59 ∷ rest)
    ∙ atom_reads b todo (sign 59 ∷ rest) (all_left IsName (atom_names b) [] (all_right IsName (atom_names a) (atom_names b ++ []) h)) refl
side_reads (rhs.Conditional c a b) todo rest h =
    let others : AreVerilogNames (atom_names a ++ (atom_names b ++ [])) = all_right IsName (atom_names c) (atom_names a ++ (atom_names b ++ [])) h in
    let end : List VToken = atom_tokens b ++ sign 59 ∷ rest in
    ap (λ l. reads (a_side ∷ todo) l) (append_assoc (atom_tokens c ++ sign 63 ∷ atom_tokens a) (sign 58 ∷ atom_tokens b) (sign 59 ∷ rest) ∙ append_assoc (atom_tokens c) (sign 63 ∷ atom_tokens a) (sign 58 ∷ end))
    ∙ first_reads c todo (sign 63 ∷ atom_tokens a ++ sign 58 ∷ end) (all_left IsName (atom_names c) (atom_names a ++ (atom_names b ++ [])) h) refl
    ∙ question_reads todo (atom_tokens a ++ sign 58 ∷ end)
    ∙ atom_reads a (a_token (sign 58) ∷ an_atom ∷ todo) (sign 58 ∷ end) (all_left IsName (atom_names a) (atom_names b ++ []) others) refl
    ∙ token_reads (an_atom ∷ todo) 58 end refl
    ∙ atom_reads b todo (sign 59 ∷ rest) (all_left IsName (atom_names b) [] (all_right IsName (atom_names a) (atom_names b ++ []) others)) refl
side_reads (rhs.Word m a) todo rest h =
    first_name m todo (sign 91 ∷ (atom_tokens a ++ sign 93 ∷ []) ++ sign 59 ∷ rest) h.0
    ∙ bracket_reads todo ((atom_tokens a ++ sign 93 ∷ []) ++ sign 59 ∷ rest)
    ∙ ap (λ l. reads (behind_bracket ∷ todo) l) (append_assoc (atom_tokens a) (sign 93 ∷ []) (sign 59 ∷ rest))
    ∙ other_than_number (behind_bracket ∷ todo) (an_atom ∷ a_token (sign 93) ∷ todo) a (sign 93 ∷ sign 59 ∷ rest) (λ t e. read_side t e todo)
    ∙ atom_reads a (a_token (sign 93) ∷ todo) (sign 93 ∷ sign 59 ∷ rest) (all_left IsName (atom_names a) [] h.1) refl
    ∙ token_reads todo 93 (sign 59 ∷ rest) refl
