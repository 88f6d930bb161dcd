-- Operands, as text and as tokens.
-- The text of a sound operand is read as its tokens, before whatever closes it.
use Rattle.std.proofs.Common.{◌≡◌, ℕ, ◌^◌, ◌≤◌, List, [], ◌∷◌, ◌++◌, refl, append_assoc, arith}
use Rattle.std.specs.Prelude.{codes, decimal, flat_map}
use Rattle.std.specs.List.{AllByRecursion}
use Rattle.std.proofs.Math.Nat.{pow-le-pow_right, mul-le-mul_left}
use Rattle.fir_base.specs.Digits.{hexadecimal}
use Rattle.fir_base.proofs.Each.{all_left, all_right}
use Rattle.ver_words.specs.Names.{IsName}
use Rattle.ver_ast.specs.Atoms.{AtomTree, net, constant, bit_select, part_select, concat, repeat, AtomTrees, no_atoms, atom_before}
use Rattle.ver_ast.specs.AtomWidths.{atom_width}
use Rattle.ver_ast.specs.Nets.{SizedNet}
use Rattle.ver_ast.specs.SoundSides.{IsSound, AreSound, IsOperand}
use Rattle.ver_ast.specs.Names.{atom_names, joined_names}
use Rattle.ver_ast.specs.Tokens.{VToken, number, sign}
use Rattle.ver_ast.specs.Grammar.{atom_tokens, next_atom_tokens}
use Rattle.ver_emit.specs.Layout.{atom_text, next_atom_text}
use Rattle.ver_emit.proofs.ReadText.{Reads, moved}
use Rattle.ver_emit.proofs.Fixed.{fixed_spelled}
use Rattle.ver_emit.proofs.Words.{Closes, OpensNoMark, word_spelled, word_opens_no_mark}
use Rattle.ver_emit.proofs.Numbers.{number_spelled, decimal_opens_no_mark}
use Rattle.ver_emit.proofs.Constants.{constant_spelled}
use Rattle.ver_emit.proofs.Narrow.{AllNarrow, width_is_narrow}

-- a comma or the closing brace closes an operand of a concatenation
closed_by_atoms : (more : AtomTrees) (rest : List ℕ) → Closes (next_atom_text more ++ 125 ∷ rest)
closed_by_atoms no_atoms rest = refl
closed_by_atoms (atom_before a more) rest = refl

-- a sound operand has a bit
has_a_bit : (nets : List SizedNet) (a : AtomTree) → IsSound nets a → 1 ≤ atom_width nets a
has_a_bit nets (net n) sound = sound
has_a_bit nets (constant width value) sound = sound.0
has_a_bit nets (bit_select n i) sound = omega arith
has_a_bit nets (part_select n hi lo) sound = omega (arith, sound.1)
has_a_bit nets (concat a more) sound = omega (arith, has_a_bit nets a sound.0)
has_a_bit nets (repeat count a) sound =
    omega (arith, mul-le-mul_left count (has_a_bit nets a sound.0), sound.1)

-- so there are no more copies of it than bits
few_copies : (nets : List SizedNet) (count : ℕ) (a : AtomTree) → IsSound nets (repeat count a) → count ≤ 128
few_copies nets count a sound = omega (arith, mul-le-mul_left count (has_a_bit nets a sound.0), sound.2)

mutual
  atom_spelled : (nets : List SizedNet) (a : AtomTree) (rest : List ℕ) (ts : List VToken) → AllNarrow nets → IsSound nets a
      → AllByRecursion IsName (atom_names a) → Closes rest → Reads rest ts → Reads (atom_text a ++ rest) (atom_tokens a ++ ts)
  atom_spelled nets (net n) rest ts narrow sound named c e = word_spelled n rest ts named.0.spelled c e
  atom_spelled nets (constant w value) rest ts narrow sound named c e =
      let most : 2 ^ w ≤ 2 ^ 128 = pow-le-pow_right (omega arith) sound.1 in
      let grouped : atom_text (constant w value) ++ rest ≡ decimal w ++ (codes "'h" ++ (hexadecimal value ++ rest)) = simp append_assoc in
      moved _ _ _ _ grouped (constant_spelled w value rest ts sound.0 sound.1 (omega (arith, sound.2)) c e) refl
  atom_spelled nets (bit_select n i) rest ts narrow sound named c e =
      let most = width_is_narrow nets n narrow in
      let index = number_spelled i 93 rest _ (omega (arith, sound.1)) refl refl (fixed_spelled (codes "]") rest _ ts refl refl e) in
      let name = word_spelled n _ _ named.0.spelled refl (fixed_spelled (codes "[") _ _ _ refl refl index) in
      let grouped : atom_text (bit_select n i) ++ rest ≡ n ++ (91 ∷ (decimal i ++ (93 ∷ rest))) = simp append_assoc in
      moved _ _ _ _ grouped name refl
  atom_spelled nets (part_select n hi lo) rest ts narrow sound named c e =
      let most = width_is_narrow nets n narrow in
      let low = number_spelled lo 93 rest _ (omega (arith, sound.1, sound.2)) refl refl (fixed_spelled (codes "]") rest _ ts refl refl e) in
      let high = number_spelled hi 58 _ _ (omega (arith, sound.2)) refl refl (fixed_spelled (codes ":") _ _ _ refl refl low) in
      let name = word_spelled n _ _ named.0.spelled refl (fixed_spelled (codes "[") _ _ _ refl refl high) in
      let grouped : atom_text (part_select n hi lo) ++ rest ≡ n ++ (91 ∷ (decimal hi ++ (58 ∷ (decimal lo ++ (93 ∷ rest))))) = simp append_assoc in
      moved _ _ _ _ grouped name refl
  atom_spelled nets (concat a more) rest ts narrow sound named c e =
      let others = next_atoms_spelled nets more rest ts narrow sound.1 (all_right _ (atom_names a) _ named) e in
      let first = atom_spelled nets a _ _ narrow sound.0 (all_left _ (atom_names a) _ named) (closed_by_atoms more rest) others in
      let grouped : atom_text (concat a more) ++ rest ≡ 123 ∷ (atom_text a ++ (next_atom_text more ++ 125 ∷ rest)) = simp append_assoc in
      let same : sign 123 ∷ (atom_tokens a ++ (next_atom_tokens more ++ sign 125 ∷ ts)) ≡ atom_tokens (concat a more) ++ ts = simp append_assoc in
      moved _ _ _ _ grouped (fixed_spelled (codes "{") _ _ _ refl refl first) same
  atom_spelled nets (repeat count a) rest ts narrow sound named c e =
      let most = few_copies nets count a sound in
      let close = fixed_spelled (codes "}}") rest _ ts refl refl e in
      let copied = atom_spelled nets a _ _ narrow sound.0 named refl close in
      let copies = number_spelled count 123 _ _ (omega arith) refl refl (fixed_spelled (codes "{") _ _ _ refl refl copied) in
      let grouped : atom_text (repeat count a) ++ rest ≡ 123 ∷ (decimal count ++ (123 ∷ (atom_text a ++ (125 ∷ 125 ∷ rest)))) = simp append_assoc in
      let same : sign 123 ∷ number count ∷ sign 123 ∷ (atom_tokens a ++ (sign 125 ∷ sign 125 ∷ ts)) ≡ atom_tokens (repeat count a) ++ ts =
      simp append_assoc in
      moved _ _ _ _ grouped (fixed_spelled (codes "{") _ _ _ refl refl copies) same

  -- the operands behind the first
  next_atoms_spelled : (nets : List SizedNet) (more : AtomTrees) (rest : List ℕ) (ts : List VToken) → AllNarrow nets → AreSound nets more
      → AllByRecursion IsName (joined_names more) → Reads rest ts
      → Reads (next_atom_text more ++ 125 ∷ rest) (next_atom_tokens more ++ sign 125 ∷ ts)
  next_atoms_spelled nets no_atoms rest ts narrow sound named e = fixed_spelled (codes "}") rest _ ts refl refl e
  next_atoms_spelled nets (atom_before a more) rest ts narrow sound named e =
      let others = next_atoms_spelled nets more rest ts narrow sound.1 (all_right _ (atom_names a) _ named) e in
      let first = atom_spelled nets a _ _ narrow sound.0 (all_left _ (atom_names a) _ named) (closed_by_atoms more rest) others in
      let grouped : next_atom_text (atom_before a more) ++ 125 ∷ rest ≡ codes ", " ++ (atom_text a ++ (next_atom_text more ++ 125 ∷ rest)) =
      simp append_assoc in
      let same : sign 44 ∷ (atom_tokens a ++ (next_atom_tokens more ++ sign 125 ∷ ts)) ≡ next_atom_tokens (atom_before a more) ++ sign 125 ∷ ts =
      simp append_assoc in
      moved _ _ _ _ grouped (fixed_spelled (codes ", ") _ _ _ refl refl first) same

-- the first byte of an operand makes no mark with a parenthesis before it
opens_no_mark : (nets : List SizedNet) (a : AtomTree) (rest : List ℕ) → IsSound nets a → AllByRecursion IsName (atom_names a)
    → OpensNoMark (atom_text a ++ rest)
opens_no_mark nets (net n) rest sound named = word_opens_no_mark n rest named.0.spelled
opens_no_mark nets (constant w value) rest sound named =
    let grouped : atom_text (constant w value) ++ rest ≡ decimal w ++ (codes "'h" ++ (hexadecimal value ++ rest)) = simp append_assoc in
    rw grouped (decimal_opens_no_mark w _ (omega (arith, sound.1)))
opens_no_mark nets (bit_select n i) rest sound named =
    let grouped : atom_text (bit_select n i) ++ rest ≡ n ++ (91 ∷ (decimal i ++ (93 ∷ rest))) = simp append_assoc in
    rw grouped (word_opens_no_mark n _ named.0.spelled)
opens_no_mark nets (part_select n hi lo) rest sound named =
    let grouped : atom_text (part_select n hi lo) ++ rest ≡ n ++ (91 ∷ (decimal hi ++ (58 ∷ (decimal lo ++ (93 ∷ rest))))) = simp append_assoc in
    rw grouped (word_opens_no_mark n _ named.0.spelled)
opens_no_mark nets (concat a more) rest sound named = refl
opens_no_mark nets (repeat count a) rest sound named = refl

-- the text of the operand is read as its tokens, before whatever closes it
pub record IsSpelled (a : AtomTree) : Type 0 where
  pub before : (rest : List ℕ) (ts : List VToken) → Closes rest → Reads rest ts → Reads (atom_text a ++ rest) (atom_tokens a ++ ts)
  pub no_mark : (rest : List ℕ) → OpensNoMark (atom_text a ++ rest)

pub operand_spelled : (nets : List SizedNet) (a : AtomTree) → AllNarrow nets → IsOperand nets a → AllByRecursion IsName (atom_names a) → IsSpelled a
operand_spelled nets a narrow operand named = record {
  before = λ rest ts c e. atom_spelled nets a rest ts narrow operand.sound named c e;
  no_mark = λ rest. opens_no_mark nets a rest operand.sound named;
}

-- a name, whatever it is declared as
pub name_spelled : (n : List ℕ) → IsName n → IsSpelled (net n)
name_spelled n named = record { before = λ rest ts c e. word_spelled n rest ts named.spelled c e; no_mark = λ rest. word_opens_no_mark n rest named.spelled }

-- each operand of a list
pub operands_spelled : (nets : List SizedNet) (atoms : List AtomTree) → AllNarrow nets → AllByRecursion (IsOperand nets) atoms
    → AllByRecursion IsName (flat_map atom_names atoms) → AllByRecursion IsSpelled atoms
operands_spelled nets [] narrow operands named = tt
operands_spelled nets (a ∷ more) narrow operands named = (
  operand_spelled nets a narrow operands.0 (all_left _ (atom_names a) _ named),
  operands_spelled nets more narrow operands.1 (all_right _ (atom_names a) _ named),
)
