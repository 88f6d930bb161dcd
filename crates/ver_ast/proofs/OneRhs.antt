-- No two right sides have the same tokens up to the semicolon.
use Rattle.std.proofs.Common.{◌≡◌, ℕ, List, [], ◌∷◌, ◌++◌, refl, sym, ap, ◌∙◌, arith, append_assoc}
use Rattle.std.specs.Prelude.{◌≢◌, Some}
use Rattle.ver_ast.specs.declared.tree.Rhs.{Rhs}
use Rattle.ver_ast.specs.declared.tree.Rhs.TheVariants as rhs
use Rattle.ver_ast.specs.declared.tree.UnaryOp.{UnaryOp}
use Rattle.ver_ast.specs.declared.tree.BinaryOp.{BinaryOp}
use Rattle.ver_ast.specs.declared.tree.BinaryOp.TheVariants as binary
use Rattle.ver_ast.specs.declared.tree.SignedOp.{SignedOp}
use Rattle.ver_ast.specs.Atoms.{AtomTree, net, bit_select, part_select}
use Rattle.ver_ast.specs.Tokens.{VToken, word, number, sign, signed_shift}
use Rattle.ver_ast.specs.Grammar.{atom_tokens, binary_token, unsigned_op, signed_tokens, rhs_tokens, unary_sign}
use Rattle.ver_ast.proofs.OneAtom.{front, operand_front, split_atom}
use Rattle.ver_ast.proofs.Operators.{operator, shift, behind, behind_binary, signed_op, signed_unsigned, Front, operand, plain, prefix, signed_operand, front_of, front_unary}

no_bracket : (op : BinaryOp) (r : List VToken) → front (binary_token op ∷ r) ≢ 91
no_bracket binary.Add r e = omega arith
no_bracket binary.Sub r e = omega arith
no_bracket binary.Mul r e = omega arith
no_bracket binary.Div r e = omega arith
no_bracket binary.Rem r e = omega arith
no_bracket binary.And r e = omega arith
no_bracket binary.Or r e = omega arith
no_bracket binary.Xor r e = omega arith
no_bracket binary.Lt r e = omega arith
no_bracket binary.Gt r e = omega arith
no_bracket op r e = omega arith

-- the same operator, or the same signed operator, before the same rest
split_binary : (p q : BinaryOp) (r s : List VToken) → binary_token p ∷ r ≡ binary_token q ∷ s → (p ≡ q) × (r ≡ s)
split_binary p q r s e =
    let same : operator p ≡ operator q = sym (behind_binary p r) ∙ ap behind e ∙ behind_binary q s in
    ((cc), (cc))

split_infix : (p q : SignedOp) (r s : List VToken) → binary_token (unsigned_op p) ∷ r ≡ binary_token (unsigned_op q) ∷ s → (p ≡ q) × (r ≡ s)
split_infix p q r s e =
    let t = split_binary (unsigned_op p) (unsigned_op q) r s e in
    let same : Some p ≡ Some q = sym (signed_unsigned p) ∙ ap signed_op t.0 ∙ signed_unsigned q in
    ((cc), t.1)

split_unary : (p q : UnaryOp) (r s : List VToken) → sign (unary_sign p) ∷ r ≡ sign (unary_sign q) ∷ s → (p ≡ q) × (r ≡ s)
split_unary p q r s e =
    let same : prefix p ≡ prefix q = sym (front_unary p r) ∙ ap front_of e ∙ front_unary q s in
    ((cc), (cc))

-- the tokens in groups from the right
binary_grouped : (a : AtomTree) (op : BinaryOp) (b : AtomTree) (r : List VToken)
    → rhs_tokens (rhs.Binary a op b) ++ r ≡ atom_tokens a ++ binary_token op ∷ (atom_tokens b ++ r)
binary_grouped a op b r = append_assoc (atom_tokens a) (binary_token op ∷ atom_tokens b) r

signed_grouped : (a : AtomTree) (op : SignedOp) (b : AtomTree) (r : List VToken)
    → rhs_tokens (rhs.Signed a op b) ++ r ≡ signed_tokens a ++ binary_token (unsigned_op op) ∷ (signed_tokens b ++ r)
signed_grouped a op b r = append_assoc (signed_tokens a) (binary_token (unsigned_op op) ∷ signed_tokens b) r

shift_grouped : (a b : AtomTree) (r : List VToken) → rhs_tokens (rhs.SignedShift a b) ++ r ≡ signed_tokens a ++ signed_shift ∷ (atom_tokens b ++ r)
shift_grouped a b r = append_assoc (signed_tokens a) (signed_shift ∷ atom_tokens b) r

conditional_grouped : (c a b : AtomTree) (r : List VToken)
    → rhs_tokens (rhs.Conditional c a b) ++ r ≡ atom_tokens c ++ sign 63 ∷ (atom_tokens a ++ sign 58 ∷ (atom_tokens b ++ r))
conditional_grouped c a b r = simp append_assoc

-- a signed operand
split_signed : (a b : AtomTree) (r s : List VToken) → signed_tokens a ++ r ≡ signed_tokens b ++ s → (a ≡ b) × (r ≡ s)
split_signed a b r s e =
    let inner : (atom_tokens a ++ sign 41 ∷ []) ++ r ≡ (atom_tokens b ++ sign 41 ∷ []) ++ s = cc in
    let behind_a = append_assoc (atom_tokens a) (sign 41 ∷ []) r in
    let behind_b = append_assoc (atom_tokens b) (sign 41 ∷ []) s in
    let t = split_atom a b (sign 41 ∷ r) (sign 41 ∷ s) (λ h. omega arith) (λ h. omega arith) (sym behind_a ∙ inner ∙ behind_b) in
    let rest : sign 41 ∷ r ≡ sign 41 ∷ s = t.1 in
    (t.0, (cc))

-- an operand, up to the semicolon
pub split_last : (a b : AtomTree) (r s : List VToken) → atom_tokens a ++ sign 59 ∷ r ≡ atom_tokens b ++ sign 59 ∷ s → (a ≡ b) × (r ≡ s)
split_last a b r s e =
    let t = split_atom a b (sign 59 ∷ r) (sign 59 ∷ s) (λ h. omega arith) (λ h. omega arith) e in
    let rest : sign 59 ∷ r ≡ sign 59 ∷ s = t.1 in
    (t.0, (cc))

-- two operands that are followed by different tokens
unlike_behind : (a b : AtomTree) (r s : List VToken) → front r ≢ 91 → front s ≢ 91 → behind r ≢ behind s → atom_tokens a ++ r ≡ atom_tokens b ++ s → ⊥
unlike_behind a b r s h k differ e = differ (ap behind (split_atom a b r s h k e).1)

atom_is_no_binary : (a b : AtomTree) (op : BinaryOp) (c : AtomTree) (r s : List VToken)
    → atom_tokens a ++ sign 59 ∷ r ≡ rhs_tokens (rhs.Binary b op c) ++ s → ⊥
atom_is_no_binary a b op c r s e =
    let told : behind (binary_token op ∷ (atom_tokens c ++ s)) ≡ operator op = behind_binary op _ in
    unlike_behind a b _ _ (λ h. omega arith) (no_bracket op _) (λ h. cc) (e ∙ binary_grouped b op c s)

atom_is_no_conditional : (a c b d : AtomTree) (r s : List VToken) → atom_tokens a ++ sign 59 ∷ r ≡ rhs_tokens (rhs.Conditional c b d) ++ s → ⊥
atom_is_no_conditional a c b d r s e = unlike_behind a c _ _ (λ h. omega arith) (λ h. omega arith) (λ h. cc) (e ∙ conditional_grouped c b d s)

binary_is_no_conditional : (a : AtomTree) (op : BinaryOp) (f c b d : AtomTree) (r s : List VToken)
    → rhs_tokens (rhs.Binary a op f) ++ r ≡ rhs_tokens (rhs.Conditional c b d) ++ s → ⊥
binary_is_no_conditional a op f c b d r s e =
    let told : behind (binary_token op ∷ (atom_tokens f ++ r)) ≡ operator op = behind_binary op _ in
    unlike_behind a c _ _ (no_bracket op _) (λ h. omega arith) (λ h. cc) (sym (binary_grouped a op f r) ∙ e ∙ conditional_grouped c b d s)

signed_is_no_shift : (a : AtomTree) (op : SignedOp) (f b d : AtomTree) (r s : List VToken)
    → rhs_tokens (rhs.Signed a op f) ++ r ≡ rhs_tokens (rhs.SignedShift b d) ++ s → ⊥
signed_is_no_shift a op f b d r s e =
    let t = split_signed a b _ _ (sym (signed_grouped a op f r) ∙ e ∙ shift_grouped b d s) in
    let told : behind (binary_token (unsigned_op op) ∷ (signed_tokens f ++ r)) ≡ operator (unsigned_op op) = behind_binary (unsigned_op op) _ in
    let same : operator (unsigned_op op) ≡ shift = sym told ∙ ap behind t.1 in
    cc

-- a word of an array is no operand in front of others: behind its name stands a bracket, and behind that no plain number
word_is_no_operand : (m : List ℕ) (a b : AtomTree) (r s : List VToken) → front s ≢ 91 → word m ∷ sign 91 ∷ (atom_tokens a ++ sign 93 ∷ r) ≡ atom_tokens b ++ s → ⊥
word_is_no_operand m a (net n) r s h e = let tails : sign 91 ∷ (atom_tokens a ++ sign 93 ∷ r) ≡ s = cc in h (ap front (sym tails))
word_is_no_operand m a (bit_select n i) r s h e =
    let tails : atom_tokens a ++ sign 93 ∷ r ≡ number i ∷ sign 93 ∷ s = cc in
    let told : operand ≡ plain = sym (operand_front a _) ∙ ap front_of tails in
    cc
word_is_no_operand m a (part_select n hi lo) r s h e =
    let tails : atom_tokens a ++ sign 93 ∷ r ≡ number hi ∷ sign 58 ∷ number lo ∷ sign 93 ∷ s = cc in
    let told : operand ≡ plain = sym (operand_front a _) ∙ ap front_of tails in
    cc
word_is_no_operand m a b r s h e = cc

word_grouped : (m : List ℕ) (a : AtomTree) (r : List VToken) → rhs_tokens (rhs.Word m a) ++ r ≡ word m ∷ sign 91 ∷ (atom_tokens a ++ sign 93 ∷ r)
word_grouped m a r = simp append_assoc

same_word : (m : List ℕ) (a : AtomTree) (n : List ℕ) (b : AtomTree) (r s : List VToken)
    → rhs_tokens (rhs.Word m a) ++ sign 59 ∷ r ≡ rhs_tokens (rhs.Word n b) ++ sign 59 ∷ s → (rhs.Word m a ≡ rhs.Word n b) × (r ≡ s)
same_word m a n b r s e =
    let whole = sym (word_grouped m a (sign 59 ∷ r)) ∙ e ∙ word_grouped n b (sign 59 ∷ s) in
    let name : m ≡ n = cc in
    let inside : atom_tokens a ++ sign 93 ∷ sign 59 ∷ r ≡ atom_tokens b ++ sign 93 ∷ sign 59 ∷ s = cc in
    let t = split_atom a b _ _ (λ h. omega arith) (λ h. omega arith) inside in
    let rest : sign 93 ∷ sign 59 ∷ r ≡ sign 93 ∷ sign 59 ∷ s = t.1 in
    (rw (name, t.0) refl, (cc))

word_is_no_atom : (m : List ℕ) (a b : AtomTree) (r s : List VToken) → rhs_tokens (rhs.Word m a) ++ r ≡ atom_tokens b ++ sign 59 ∷ s → ⊥
word_is_no_atom m a b r s e = word_is_no_operand m a b r _ (λ h. omega arith) (sym (word_grouped m a r) ∙ e)

word_is_no_binary : (m : List ℕ) (a b : AtomTree) (op : BinaryOp) (c : AtomTree) (r s : List VToken)
    → rhs_tokens (rhs.Word m a) ++ r ≡ rhs_tokens (rhs.Binary b op c) ++ s → ⊥
word_is_no_binary m a b op c r s e = word_is_no_operand m a b r _ (no_bracket op _) (sym (word_grouped m a r) ∙ e ∙ binary_grouped b op c s)

word_is_no_conditional : (m : List ℕ) (a c b d : AtomTree) (r s : List VToken)
    → rhs_tokens (rhs.Word m a) ++ r ≡ rhs_tokens (rhs.Conditional c b d) ++ s → ⊥
word_is_no_conditional m a c b d r s e = word_is_no_operand m a c r _ (λ h. omega arith) (sym (word_grouped m a r) ∙ e ∙ conditional_grouped c b d s)

-- what a right side begins with
abbrev rhs_front : Rhs → Front
rhs_front (rhs.Atom a) = operand
rhs_front (rhs.Unary op a) = prefix op
rhs_front (rhs.Binary a op b) = operand
rhs_front (rhs.Signed a op b) = signed_operand
rhs_front (rhs.SignedShift a b) = signed_operand
rhs_front (rhs.Conditional c a b) = operand
rhs_front (rhs.Word m a) = operand

begins_with : (x : Rhs) (r : List VToken) → front_of (rhs_tokens x ++ r) ≡ rhs_front x
begins_with (rhs.Atom a) r = operand_front a r
begins_with (rhs.Unary op a) r = front_unary op (atom_tokens a ++ r)
begins_with (rhs.Binary a op b) r = ap front_of (binary_grouped a op b r) ∙ operand_front a _
begins_with (rhs.Signed a op b) r = refl
begins_with (rhs.SignedShift a b) r = refl
begins_with (rhs.Word m a) r = refl
begins_with (rhs.Conditional c a b) r = ap front_of (conditional_grouped c a b r) ∙ operand_front c _

same_front : (x y : Rhs) (r s : List VToken) → rhs_tokens x ++ r ≡ rhs_tokens y ++ s → rhs_front x ≡ rhs_front y
same_front x y r s e = sym (begins_with x r) ∙ ap front_of e ∙ begins_with y s

-- right sides of one form, up to the semicolon
same_binary : (a : AtomTree) (p : BinaryOp) (f b : AtomTree) (q : BinaryOp) (d : AtomTree) (r s : List VToken)
    → rhs_tokens (rhs.Binary a p f) ++ sign 59 ∷ r ≡ rhs_tokens (rhs.Binary b q d) ++ sign 59 ∷ s → (rhs.Binary a p f ≡ rhs.Binary b q d) × (r ≡ s)
same_binary a p f b q d r s e =
    let t = split_atom a b _ _ (no_bracket p _) (no_bracket q _) (sym (binary_grouped a p f _) ∙ e ∙ binary_grouped b q d _) in
    let u = split_binary p q _ _ t.1 in
    let v = split_last f d r s u.1 in
    (rw (t.0, u.0, v.0) refl, v.1)

same_signed : (a : AtomTree) (p : SignedOp) (f b : AtomTree) (q : SignedOp) (d : AtomTree) (r s : List VToken)
    → rhs_tokens (rhs.Signed a p f) ++ sign 59 ∷ r ≡ rhs_tokens (rhs.Signed b q d) ++ sign 59 ∷ s → (rhs.Signed a p f ≡ rhs.Signed b q d) × (r ≡ s)
same_signed a p f b q d r s e =
    let t = split_signed a b _ _ (sym (signed_grouped a p f _) ∙ e ∙ signed_grouped b q d _) in
    let u = split_infix p q _ _ t.1 in
    let v = split_signed f d _ _ u.1 in
    let rest : sign 59 ∷ r ≡ sign 59 ∷ s = v.1 in
    (rw (t.0, u.0, v.0) refl, (cc))

same_shift : (a f b d : AtomTree) (r s : List VToken)
    → rhs_tokens (rhs.SignedShift a f) ++ sign 59 ∷ r ≡ rhs_tokens (rhs.SignedShift b d) ++ sign 59 ∷ s
    → (rhs.SignedShift a f ≡ rhs.SignedShift b d) × (r ≡ s)
same_shift a f b d r s e =
    let t = split_signed a b _ _ (sym (shift_grouped a f _) ∙ e ∙ shift_grouped b d _) in
    let shifts : signed_shift ∷ (atom_tokens f ++ sign 59 ∷ r) ≡ signed_shift ∷ (atom_tokens d ++ sign 59 ∷ s) = t.1 in
    let v = split_last f d r s (cc) in
    (rw (t.0, v.0) refl, v.1)

same_conditional : (c a f k b d : AtomTree) (r s : List VToken)
    → rhs_tokens (rhs.Conditional c a f) ++ sign 59 ∷ r ≡ rhs_tokens (rhs.Conditional k b d) ++ sign 59 ∷ s
    → (rhs.Conditional c a f ≡ rhs.Conditional k b d) × (r ≡ s)
same_conditional c a f k b d r s e =
    let t = split_atom c k _ _ (λ h. omega arith) (λ h. omega arith) (sym (conditional_grouped c a f _) ∙ e ∙ conditional_grouped k b d _) in
    let colon_f = sign 58 ∷ (atom_tokens f ++ sign 59 ∷ r) in
    let colon_d = sign 58 ∷ (atom_tokens d ++ sign 59 ∷ s) in
    let questions : sign 63 ∷ (atom_tokens a ++ colon_f) ≡ sign 63 ∷ (atom_tokens b ++ colon_d) = t.1 in
    let u = split_atom a b colon_f colon_d (λ h. omega arith) (λ h. omega arith) (cc) in
    let colons : colon_f ≡ colon_d = u.1 in
    let v = split_last f d r s (cc) in
    (rw (t.0, u.0, v.0) refl, v.1)

-- a right side, up to the semicolon
pub split_rhs : (x y : Rhs) (r s : List VToken) → rhs_tokens x ++ sign 59 ∷ r ≡ rhs_tokens y ++ sign 59 ∷ s → (x ≡ y) × (r ≡ s)
split_rhs (rhs.Atom a) (rhs.Atom b) r s e = let t = split_last a b r s e in (ap rhs.Atom t.0, t.1)
split_rhs (rhs.Unary p a) (rhs.Unary q b) r s e =
    let t = split_unary p q _ _ e in
    let v = split_last a b r s t.1 in
    (rw (t.0, v.0) refl, v.1)
split_rhs (rhs.Binary a p f) (rhs.Binary b q d) r s e = same_binary a p f b q d r s e
split_rhs (rhs.Signed a p f) (rhs.Signed b q d) r s e = same_signed a p f b q d r s e
split_rhs (rhs.SignedShift a f) (rhs.SignedShift b d) r s e = same_shift a f b d r s e
split_rhs (rhs.Conditional c a f) (rhs.Conditional k b d) r s e = same_conditional c a f k b d r s e
split_rhs (rhs.Word m a) (rhs.Word n b) r s e = same_word m a n b r s e
split_rhs (rhs.Word m a) (rhs.Atom b) r s e = absurd (word_is_no_atom m a b _ _ e)
split_rhs (rhs.Atom b) (rhs.Word m a) r s e = absurd (word_is_no_atom m a b _ _ (sym e))
split_rhs (rhs.Word m a) (rhs.Binary b q c) r s e = absurd (word_is_no_binary m a b q c _ _ e)
split_rhs (rhs.Binary b q c) (rhs.Word m a) r s e = absurd (word_is_no_binary m a b q c _ _ (sym e))
split_rhs (rhs.Word m a) (rhs.Conditional c b d) r s e = absurd (word_is_no_conditional m a c b d _ _ e)
split_rhs (rhs.Conditional c b d) (rhs.Word m a) r s e = absurd (word_is_no_conditional m a c b d _ _ (sym e))
split_rhs (rhs.Atom a) (rhs.Binary b q c) r s e = absurd (atom_is_no_binary a b q c _ _ e)
split_rhs (rhs.Binary a p f) (rhs.Atom b) r s e = absurd (atom_is_no_binary b a p f _ _ (sym e))
split_rhs (rhs.Atom a) (rhs.Conditional c b d) r s e = absurd (atom_is_no_conditional a c b d _ _ e)
split_rhs (rhs.Conditional c a f) (rhs.Atom b) r s e = absurd (atom_is_no_conditional b c a f _ _ (sym e))
split_rhs (rhs.Binary a p f) (rhs.Conditional c b d) r s e = absurd (binary_is_no_conditional a p f c b d _ _ e)
split_rhs (rhs.Conditional c a f) (rhs.Binary b q d) r s e = absurd (binary_is_no_conditional b q d c a f _ _ (sym e))
split_rhs (rhs.Signed a p f) (rhs.SignedShift b d) r s e = absurd (signed_is_no_shift a p f b d _ _ e)
split_rhs (rhs.SignedShift a f) (rhs.Signed b q d) r s e = absurd (signed_is_no_shift b q d a f _ _ (sym e))
split_rhs x y r s e = let fronts = same_front x y _ _ e in absurd (cc)
