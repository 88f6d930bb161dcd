-- What right sides evaluate to.
-- A value of the target's width, which hangs on the nets that are read alone.
use Rattle.std.proofs.Common.{◌≡◌, ℕ, ◌+◌, ◌-◌, ◌/◌, ◌%◌, ◌^◌, ◌<◌, List, [], ◌∷◌, ◌++◌, ◌∙◌, Bool, refl, ap, inl, subst, cond, ℤ, arith, lit<}
use Rattle.std.specs.Prelude.{flat_map, slice_get, Option, Some, None, unwrap_or, count_ones, ◌==◌, pos, int_div, int_rem}
use Rattle.fir_bits.specs.Integers.{bits_of}
use Rattle.std.specs.List.{AllByRecursion}
use Rattle.std.specs.Int.Bits.{and_lt}
use Rattle.std.specs.Ordering.{int_eq}
use Rattle.std.proofs.Math.Nat.{div-le_self, mod-le}
use Rattle.std.proofs.lemmas.Bool.{cond_both}
use Rattle.std.proofs.lemmas.Nat.{or_lt, xor_lt, pow_pos, mod_below}
use Rattle.fir_bits.proofs.Below.{bits_of-below, flag_below}
use Rattle.fir_base.specs.Lists.{In}
use Rattle.fir_base.specs.Ticks.{Env}
use Rattle.fir_base.proofs.Members.{in_left, in_right}
use Rattle.ver_ast.specs.declared.tree.Rhs.{Rhs}
use Rattle.ver_ast.specs.declared.tree.Rhs.TheVariants as rhs
use Rattle.ver_ast.specs.declared.tree.UnaryOp.{UnaryOp}
use Rattle.ver_ast.specs.declared.tree.UnaryOp.TheVariants as unary
use Rattle.ver_ast.specs.declared.tree.BinaryOp.{BinaryOp}
use Rattle.ver_ast.specs.declared.tree.BinaryOp.TheVariants as binary
use Rattle.ver_ast.specs.declared.tree.SignedOp.{SignedOp}
use Rattle.ver_ast.specs.declared.tree.SignedOp.TheVariants as signed
use Rattle.ver_ast.specs.Atoms.{AtomTree, net, constant, bit_select, part_select, concat, repeat, AtomTrees, no_atoms, atom_before}
use Rattle.ver_ast.specs.Nets.{SizedNet, Variable}
use Rattle.ver_ast.specs.Stores.{Store}
use Rattle.ver_ast.specs.AtomWidths.{atom_width}
use Rattle.ver_ast.specs.AtomValues.{copies, atom_value, joined_value}
use Rattle.ver_ast.specs.SideValues.{unary_value, binary_value, fits_signed, signed_quotient, signed_value, rhs_value}
use Rattle.ver_ast.specs.SoundSides.{IsOperand, KeepsRule, binary_rule, signed_rule, KeepsUnary, IsSoundSide}
use Rattle.ver_ast.specs.Names.{atom_names, joined_names, rhs_names}
use Rattle.ver_ast.proofs.Widths.{FitNames, fit_left, fit_right, atom_fits}

-- the value of a right side, or else 0
abbrev pub side_value : List SizedNet → Store → Env → ℕ → Rhs → ℕ
side_value ns store env w r = unwrap_or (rhs_value ns store env w r) 0

-- each array has words of its width
pub record FitWords (arrays : List Variable) (store : Store) : Type 0 where
  pub each : (k : Variable) → In arrays k → (i x : ℕ) → slice_get (store k.name) i ≡ Some x → x < 2 ^ k.width

word_or_zero : (x : Option ℕ) (limit : ℕ) → 0 < limit → ((y : ℕ) → x ≡ Some y → y < limit) → unwrap_or x 0 < limit
word_or_zero None limit z h = z
word_or_zero (Some y) limit z h = h y refl

-- a value, or 0 in its place, where it may be missing
or_zero_below : (missing : Bool) (x : Option ℕ) (limit : ℕ) → unwrap_or x 0 < limit → unwrap_or (cond missing None x) 0 < limit
or_zero_below missing x limit h =
    cond_both missing None x (λ (y : Option ℕ). unwrap_or y 0 < limit) (λ _. omega arith) (λ _. h)

unary_fits : (op : UnaryOp) (w u a : ℕ) → KeepsUnary op w u → a < 2 ^ u → unary_value op u a < 2 ^ w
unary_fits unary.Not w u a k h = rw (← k) (omega arith)
unary_fits unary.And w u a k h = rw k (flag_below _)
unary_fits unary.Or w u a k h = rw k (flag_below _)
unary_fits unary.Xor w u a k h = rw k (mod_below (count_ones a) 2 (lit< tt))

binary_fits : (op : BinaryOp) (w u v a b : ℕ) → KeepsRule (binary_rule op) w u v → a < 2 ^ u → b < 2 ^ v → unwrap_or (binary_value op w a b) 0 < 2 ^ w
binary_fits binary.Add w u v a b k h i = mod_below _ _ (pow_pos w)
binary_fits binary.Sub w u v a b k h i = mod_below _ _ (pow_pos w)
binary_fits binary.Mul w u v a b k h i = mod_below _ _ (pow_pos w)
binary_fits binary.Div w u v a b k h i = or_zero_below (b == 0) (Some (a / b)) (2 ^ w) (rw (← k.0) (omega (arith, h, div-le_self a b)))
binary_fits binary.Rem w u v a b k h i = or_zero_below (b == 0) (Some (a % b)) (2 ^ w) (rw (← k.0) (omega (arith, h, mod-le a b)))
binary_fits binary.And w u v a b k h i = and_lt w a b (rw (← k.0) h) (rw (← k.1) i)
binary_fits binary.Or w u v a b k h i = or_lt w a b (rw (← k.0) h) (rw (← k.1) i)
binary_fits binary.Xor w u v a b k h i = xor_lt w a b (rw (← k.0) h) (rw (← k.1) i)
binary_fits binary.Shl w u v a b k h i = mod_below _ _ (pow_pos w)
binary_fits binary.Shr w u v a b k h i = rw (← k) (omega (arith, h, div-le_self a (2 ^ b)))
binary_fits binary.Eq w u v a b k h i = rw k.0 (flag_below _)
binary_fits binary.Neq w u v a b k h i = rw k.0 (flag_below _)
binary_fits binary.Lt w u v a b k h i = rw k.0 (flag_below _)
binary_fits binary.Leq w u v a b k h i = rw k.0 (flag_below _)
binary_fits binary.Gt w u v a b k h i = rw k.0 (flag_below _)
binary_fits binary.Geq w u v a b k h i = rw k.0 (flag_below _)

quotient_fits : (u : ℕ) (x : ℤ) → unwrap_or (signed_quotient u x) 0 < 2 ^ u
quotient_fits u x =
    cond_both (fits_signed u x) (Some _) None (λ (y : Option ℕ). unwrap_or y 0 < 2 ^ u) (λ _. bits_of-below u x) (λ _. pow_pos u)

signed_fits : (op : SignedOp) (w u v : ℕ) (x y : ℤ) → KeepsRule (signed_rule op) w u v → unwrap_or (signed_value op u x y) 0 < 2 ^ w
signed_fits signed.Div w u v x y k =
    rw (← k.0) (or_zero_below (int_eq y (pos 0)) (signed_quotient u (int_div x y)) (2 ^ u) (quotient_fits u (int_div x y)))
signed_fits signed.Rem w u v x y k =
    rw (← k.0) (or_zero_below (int_eq y (pos 0)) (Some (bits_of u (int_rem x y))) (2 ^ u) (bits_of-below u (int_rem x y)))
signed_fits signed.Lt w u v x y k = rw k.0 (flag_below _)
signed_fits signed.Leq w u v x y k = rw k.0 (flag_below _)
signed_fits signed.Gt w u v x y k = rw k.0 (flag_below _)
signed_fits signed.Geq w u v x y k = rw k.0 (flag_below _)

-- each operand of a list has a value of its width
all_fit : (ns : List SizedNet) (env : Env) (atoms : List AtomTree) → AllByRecursion (IsOperand ns) atoms → FitNames ns env (flat_map atom_names atoms)
    → AllByRecursion (λ a. atom_value ns env a < 2 ^ atom_width ns a) atoms
all_fit ns env [] s h = tt
all_fit ns env (a ∷ more) s h = (
  atom_fits ns env a s.0.sound (fit_left ns env (atom_names a) (flat_map atom_names more) h),
  all_fit ns env more s.1 (fit_right ns env (atom_names a) (flat_map atom_names more) h),
)

-- a sound right side has a value of its target's width
pub rhs_fits : (ns : List SizedNet) (ks : List Variable) (store : Store) (env : Env) (w : ℕ) (r : Rhs) → IsSoundSide ns ks w r → FitWords ks store
    → FitNames ns env (rhs_names r) → side_value ns store env w r < 2 ^ w
rhs_fits ns ks store env w (rhs.Atom a) s f h =
    let fit = all_fit ns env (a ∷ []) s.operands h in
    rw (← s.widths) fit.0
rhs_fits ns ks store env w (rhs.Unary op a) s f h =
    let fit = all_fit ns env (a ∷ []) s.operands h in
    unary_fits op w (atom_width ns a) (atom_value ns env a) s.widths fit.0
rhs_fits ns ks store env w (rhs.Binary a op b) s f h =
    let fit = all_fit ns env (a ∷ b ∷ []) s.operands h in
    binary_fits op w (atom_width ns a) (atom_width ns b) (atom_value ns env a) (atom_value ns env b) s.widths fit.0 fit.1.0
rhs_fits ns ks store env w (rhs.Signed a op b) s f h = signed_fits op w (atom_width ns a) (atom_width ns b) _ _ s.widths
rhs_fits ns ks store env w (rhs.SignedShift a b) s f h = bits_of-below w _
rhs_fits ns ks store env w (rhs.Conditional c a b) s f h =
    let fit = all_fit ns env (c ∷ a ∷ b ∷ []) s.operands h in
    cond_both (atom_value ns env c == 1) (atom_value ns env a) (atom_value ns env b) (λ (x : ℕ). x < 2 ^ w)
    (λ _. rw (← s.widths.1) fit.1.0) (λ _. rw (← s.widths.2) fit.1.1.0)
rhs_fits ns ks store env w (rhs.Word m a) s f h =
    let k = s.widths.0 in
    let i = atom_value ns env a in
    word_or_zero (slice_get (store m) i) (2 ^ w) (pow_pos w)
    (λ y e. subst (λ (u : ℕ). y < 2 ^ u) s.widths.3 (f.each k s.widths.1 i y (ap (λ (n : List ℕ). slice_get (store n) i) s.widths.2 ∙ e)))

-- two choices that agree on the names
pub record Agree (e f : Env) (names : List (List ℕ)) : Type 0 where
  pub each : (n : List ℕ) → In names n → e n ≡ f n

agree_left : (e f : Env) (front back : List (List ℕ)) → Agree e f (front ++ back) → Agree e f front
agree_left e f front back h = record { each = λ n m. h.each n (in_left front back n m) }

agree_right : (e f : Env) (front back : List (List ℕ)) → Agree e f (front ++ back) → Agree e f back
agree_right e f front back h = record { each = λ n m. h.each n (in_right front back n m) }

mutual
  pub same_atom : (ns : List SizedNet) (e f : Env) (a : AtomTree) → Agree e f (atom_names a) → atom_value ns e a ≡ atom_value ns f a
  same_atom ns e f (net n) h = h.each n (inl refl)
  same_atom ns e f (constant width value) h = refl
  same_atom ns e f (bit_select n i) h = ap (λ (x : ℕ). x / 2 ^ i % 2) (h.each n (inl refl))
  same_atom ns e f (part_select n hi lo) h = ap (λ (x : ℕ). x / 2 ^ lo % 2 ^ (hi + 1 - lo)) (h.each n (inl refl))
  same_atom ns e f (concat a more) h =
      let head = same_atom ns e f a (agree_left e f (atom_names a) (joined_names more) h) in
      let tail = same_joined ns e f more (agree_right e f (atom_names a) (joined_names more) h) in
      cc
  same_atom ns e f (repeat count a) h = ap (copies count (atom_width ns a)) (same_atom ns e f a h)

  same_joined : (ns : List SizedNet) (e f : Env) (more : AtomTrees) → Agree e f (joined_names more) → joined_value ns e more ≡ joined_value ns f more
  same_joined ns e f no_atoms h = refl
  same_joined ns e f (atom_before a more) h =
      let head = same_atom ns e f a (agree_left e f (atom_names a) (joined_names more) h) in
      let tail = same_joined ns e f more (agree_right e f (atom_names a) (joined_names more) h) in
      cc

all_same : (ns : List SizedNet) (e f : Env) (atoms : List AtomTree) → Agree e f (flat_map atom_names atoms)
    → AllByRecursion (λ a. atom_value ns e a ≡ atom_value ns f a) atoms
all_same ns e f [] h = tt
all_same ns e f (a ∷ more) h = (
  same_atom ns e f a (agree_left e f (atom_names a) (flat_map atom_names more) h),
  all_same ns e f more (agree_right e f (atom_names a) (flat_map atom_names more) h),
)

-- the value hangs on what is read alone
pub same_rhs : (ns : List SizedNet) (store : Store) (e f : Env) (w : ℕ) (r : Rhs) → Agree e f (rhs_names r) → rhs_value ns store e w r ≡ rhs_value ns store f w r
same_rhs ns store e f w (rhs.Atom a) h = ap Some (all_same ns e f (a ∷ []) h).0
same_rhs ns store e f w (rhs.Unary op a) h = ap (λ (x : ℕ). Some (unary_value op (atom_width ns a) x)) (all_same ns e f (a ∷ []) h).0
same_rhs ns store e f w (rhs.Binary a op b) h =
    let same = all_same ns e f (a ∷ b ∷ []) h in
    let first : atom_value ns e a ≡ atom_value ns f a = same.0 in
    let second : atom_value ns e b ≡ atom_value ns f b = same.1.0 in
    rw (first, second) refl
same_rhs ns store e f w (rhs.Signed a op b) h =
    let same = all_same ns e f (a ∷ b ∷ []) h in
    let first : atom_value ns e a ≡ atom_value ns f a = same.0 in
    let second : atom_value ns e b ≡ atom_value ns f b = same.1.0 in
    rw (first, second) refl
same_rhs ns store e f w (rhs.SignedShift a b) h =
    let same = all_same ns e f (a ∷ b ∷ []) h in
    let first : atom_value ns e a ≡ atom_value ns f a = same.0 in
    let second : atom_value ns e b ≡ atom_value ns f b = same.1.0 in
    rw (first, second) refl
same_rhs ns store e f w (rhs.Conditional c a b) h =
    let same = all_same ns e f (c ∷ a ∷ b ∷ []) h in
    let condition : atom_value ns e c ≡ atom_value ns f c = same.0 in
    let first : atom_value ns e a ≡ atom_value ns f a = same.1.0 in
    let second : atom_value ns e b ≡ atom_value ns f b = same.1.1.0 in
    rw (condition, first, second) refl
same_rhs ns store e f w (rhs.Word m a) h = ap (slice_get (store m)) (all_same ns e f (a ∷ []) h).0
