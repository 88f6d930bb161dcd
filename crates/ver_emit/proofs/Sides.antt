-- Right sides, as text and as tokens.
-- An operator of one byte or more stands between spaces, and a space closes it.
use Rattle.std.proofs.Common.{◌≡◌, ℕ, List, [], ◌∷◌, ◌++◌, Some, refl, sym, append_assoc, true}
use Rattle.std.specs.Prelude.{codes}
use Rattle.std.specs.List.{AllByRecursion, list_all}
use Rattle.ver_ast.specs.declared.tree.Rhs.{Rhs}
use Rattle.ver_ast.specs.declared.tree.Rhs.TheVariants as rhs
use Rattle.ver_ast.specs.declared.tree.UnaryOp.{UnaryOp}
use Rattle.ver_ast.specs.declared.tree.UnaryOp.TheVariants as unary
use Rattle.ver_ast.specs.declared.tree.BinaryOp.{BinaryOp}
use Rattle.ver_ast.specs.declared.tree.BinaryOp.TheVariants as binary
use Rattle.ver_ast.specs.Atoms.{AtomTree}
use Rattle.ver_ast.specs.Names.{rhs_atoms}
use Rattle.ver_ast.specs.ItemNames.{rhs_arrays}
use Rattle.ver_ast.specs.Spells.{AreVerilogNames}
use Rattle.ver_ast.specs.Tokens.{VToken, word, sign, signed_shift, signed_word}
use Rattle.ver_ast.specs.working.TokenSteps.{between}
use Rattle.ver_ast.specs.Grammar.{atom_tokens, unary_sign, binary_token, unsigned_op, signed_tokens, rhs_tokens}
use Rattle.ver_emit.specs.Layout.{atom_text, between_text, signed_text, rhs_text}
use Rattle.ver_emit.proofs.Grouping.{three_joined}
use Rattle.ver_emit.proofs.ReadText.{Reads, moved, is_fixed}
use Rattle.ver_emit.proofs.Fixed.{run, fixed_spelled}
use Rattle.ver_emit.proofs.Words.{Closes, word_spelled, parenthesis_spelled}
use Rattle.ver_emit.proofs.Operands.{IsSpelled}

-- an operator before its operand
unary_read : (op : UnaryOp) → run between (unary_sign op ∷ []) ≡ Some (sign (unary_sign op) ∷ [], between)
unary_read unary.Not = refl
unary_read unary.And = refl
unary_read unary.Or = refl
unary_read unary.Xor = refl

-- an operator between spaces
binary_read : (op : BinaryOp) → run between (between_text op) ≡ Some (binary_token op ∷ [], between)
binary_read binary.Add = refl
binary_read binary.Sub = refl
binary_read binary.Mul = refl
binary_read binary.Div = refl
binary_read binary.Rem = refl
binary_read binary.And = refl
binary_read binary.Or = refl
binary_read binary.Xor = refl
binary_read binary.Shl = refl
binary_read binary.Shr = refl
binary_read binary.Eq = refl
binary_read binary.Neq = refl
binary_read binary.Lt = refl
binary_read binary.Leq = refl
binary_read binary.Gt = refl
binary_read binary.Geq = refl

binary_fixed : (op : BinaryOp) → list_all is_fixed (binary_token op ∷ []) ≡ true
binary_fixed binary.Add = refl
binary_fixed op = refl

-- an operand that is read as a signed number
signed_spelled : (a : AtomTree) (rest : List ℕ) (ts : List VToken) → IsSpelled a → Reads rest ts
    → Reads (signed_text a ++ rest) (signed_tokens a ++ ts)
signed_spelled a rest ts spelled e =
    let inner = spelled.before _ _ refl (fixed_spelled (codes ")") rest _ ts refl refl e) in
    let grouped : signed_text a ++ rest ≡ codes "$signed" ++ (40 ∷ (atom_text a ++ (41 ∷ rest))) = simp append_assoc in
    let same : signed_word ∷ sign 40 ∷ (atom_tokens a ++ (sign 41 ∷ ts)) ≡ signed_tokens a ++ ts = simp append_assoc in
    moved _ _ _ _ grouped (fixed_spelled (codes "$signed") _ _ _ refl refl (parenthesis_spelled _ _ (spelled.no_mark _) inner)) same

-- a right side before what closes it
pub rhs_spelled : (r : Rhs) (rest : List ℕ) (ts : List VToken) → AreVerilogNames (rhs_arrays r) → AllByRecursion IsSpelled (rhs_atoms r) → Closes rest
    → Reads rest ts → Reads (rhs_text r ++ rest) (rhs_tokens r ++ ts)
rhs_spelled (rhs.Atom a) rest ts arrays spelled c e = spelled.0.before rest ts c e
rhs_spelled (rhs.Unary op a) rest ts arrays spelled c e =
    fixed_spelled (unary_sign op ∷ []) _ _ _ (unary_read op) refl (spelled.0.before rest ts c e)
rhs_spelled (rhs.Binary a op b) rest ts arrays spelled c e =
    let right = spelled.1.0.before rest ts c e in
    let left = spelled.0.before _ _ refl (fixed_spelled (between_text op) _ _ _ (binary_read op) (binary_fixed op) right) in
    let grouped : rhs_text (rhs.Binary a op b) ++ rest ≡ atom_text a ++ (between_text op ++ (atom_text b ++ rest)) =
    three_joined (atom_text a) (between_text op) (atom_text b) rest in
    moved _ _ _ _ grouped left (sym (append_assoc (atom_tokens a) (binary_token op ∷ atom_tokens b) ts))
rhs_spelled (rhs.Signed a op b) rest ts arrays spelled c e =
    let right = signed_spelled b rest ts spelled.1.0 e in
    let behind = fixed_spelled (between_text (unsigned_op op)) _ _ _ (binary_read (unsigned_op op)) (binary_fixed (unsigned_op op)) right in
    let left = signed_spelled a _ _ spelled.0 behind in
    let grouped : rhs_text (rhs.Signed a op b) ++ rest ≡ signed_text a ++ (between_text (unsigned_op op) ++ (signed_text b ++ rest)) =
    three_joined (signed_text a) (between_text (unsigned_op op)) (signed_text b) rest in
    moved _ _ _ _ grouped left (sym (append_assoc (signed_tokens a) (binary_token (unsigned_op op) ∷ signed_tokens b) ts))
rhs_spelled (rhs.SignedShift a b) rest ts arrays spelled c e =
    let right = spelled.1.0.before rest ts c e in
    let left = signed_spelled a _ _ spelled.0 (fixed_spelled (codes " >>> ") _ _ _ refl refl right) in
    let grouped : rhs_text (rhs.SignedShift a b) ++ rest ≡ signed_text a ++ (codes " >>> " ++ (atom_text b ++ rest)) =
    three_joined (signed_text a) (codes " >>> ") (atom_text b) rest in
    moved _ _ _ _ grouped left (sym (append_assoc (signed_tokens a) (signed_shift ∷ atom_tokens b) ts))
rhs_spelled (rhs.Conditional p a b) rest ts arrays spelled c e =
    let other = spelled.1.1.0.before rest ts c e in
    let one = spelled.1.0.before _ _ refl (fixed_spelled (codes " : ") _ _ _ refl refl other) in
    let condition = spelled.0.before _ _ refl (fixed_spelled (codes " ? ") _ _ _ refl refl one) in
    let grouped : rhs_text (rhs.Conditional p a b) ++ rest ≡ atom_text p ++ (codes " ? " ++ (atom_text a ++ (codes " : " ++ (atom_text b ++ rest)))) =
    simp append_assoc in
    let same : atom_tokens p ++ (sign 63 ∷ (atom_tokens a ++ (sign 58 ∷ (atom_tokens b ++ ts)))) ≡ rhs_tokens (rhs.Conditional p a b) ++ ts =
    simp append_assoc in
    moved _ _ _ _ grouped condition same
rhs_spelled (rhs.Word m a) rest ts arrays spelled c e =
    let address = spelled.0.before _ _ refl (fixed_spelled (codes "]") rest _ ts refl refl e) in
    let array = word_spelled m _ _ arrays.0.spelled refl (fixed_spelled (codes "[") _ _ _ refl refl address) in
    let grouped : rhs_text (rhs.Word m a) ++ rest ≡ m ++ (codes "[" ++ (atom_text a ++ (codes "]" ++ rest))) = simp append_assoc in
    let same : word m ∷ sign 91 ∷ (atom_tokens a ++ sign 93 ∷ ts) ≡ rhs_tokens (rhs.Word m a) ++ ts = simp append_assoc in
    moved _ _ _ _ grouped array same
