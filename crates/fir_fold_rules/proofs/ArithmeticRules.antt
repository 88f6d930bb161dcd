-- What the rules of sums, differences, products and quotients rest on.
use Rattle.std.proofs.Common.{◌≡◌, ℕ, ◌+◌, ◌^◌, ◌≤◌, max, not, Bool, true, false, if◌then◌else◌, [], ◌∷◌, inl, refl, sym, ap, ◌∙◌, arith, ℤ, pos, ◌+ℤ◌, ◌-ℤ◌, ◌*ℤ◌}
use Rattle.std.proofs.lemmas.Int.{ints}
use Rattle.std.proofs.lemmas.Nat.{and_comm, or_comm, pow_pos, xor_comm}
use Rattle.std.proofs.lemmas.Cmp.{int_eq_equiv}
use Rattle.std.proofs.Math.IntN.{*ℤ-zero, *ℤ_comm}
use Rattle.std.proofs.Math.Nat.{mod-eq_of_lt}
use Rattle.fir_bits.specs.Integers.{bits_of, quotient, reading, remainder}
use Rattle.fir_bits.specs.Operators.{flag, integer_of, operation_value, widened}
use Rattle.fir_bits.specs.declared.operators.PrimOp.{PrimOp}
use Rattle.fir_bits.specs.declared.operators.PrimOp.TheVariants.{Add, And, Div, Eq, Mul, Neq, Or, Pad, Rem, Sub, Xor}
use Rattle.fir_bits.specs.declared.types.NumTy.{NumTy}
use Rattle.fir_bits.specs.declared.values.Num.{Num}
use Rattle.fir_bits.proofs.Readings.{not_negative}
use Rattle.fir_net.specs.declared.reads.Read.{Read}
use Rattle.fir_fold_rules.specs.declared.operand.Operand.{Operand}
use Rattle.fir_fold_rules.specs.declared.term.Term.TheVariants as term
use Rattle.fir_fold_rules.specs.working.Rules.{Equals, Holds, commutes}
use Rattle.fir_fold_rules.proofs.Extensions.{bits_of-reading}
use Rattle.fir_fold_rules.proofs.RuleForms.{below, is_value, literal_number, number, operand_read, pair_equals, same_value, value_of}

reading_zero : (s : Bool) (w : ℕ) → reading s w 0 ≡ pos 0
reading_zero false w = refl
reading_zero true w = ap (λ (b : Bool). if b then pos 0 -ℤ pos (2 ^ w) else pos 0) (not_negative w 0 (pow_pos w))

no_bits : (r : ℕ) → bits_of r (pos 0) ≡ 0
no_bits r = mod-eq_of_lt (pow_pos r)

plus_none : (z : ℤ) → z +ℤ pos 0 ≡ z
plus_none z = omega (arith, ints)

minus_none : (z : ℤ) → z -ℤ pos 0 ≡ z
minus_none z = omega (arith, ints)

minus_same : (z : ℤ) → z -ℤ z ≡ pos 0
minus_same z = omega (arith, ints)

-- the operands of an operation that commutes may be turned
turned : (op : PrimOp) → commutes op ≡ true → (r : ℕ) (x y : Num) → operation_value op r x y 0 0 ≡ operation_value op r y x 0 0
turned Add e r x y = ap (bits_of r) (sum (integer_of x) (integer_of y))
  where
    sum : (v w : ℤ) → v +ℤ w ≡ w +ℤ v
    sum v w = omega (arith, ints)
turned Mul e r x y = ap (bits_of r) (*ℤ_comm (integer_of x) (integer_of y))
turned And e r x y = and_comm (widened x r) (widened y r)
turned Or e r x y = or_comm (widened x r) (widened y r)
turned Xor e r x y = xor_comm (widened x r) (widened y r)
turned Eq e r x y = ap flag (int_eq_equiv.symm (integer_of x) (integer_of y))
turned Neq e r x y = ap (λ b. flag (not b)) (int_eq_equiv.symm (integer_of x) (integer_of y))
turned _ e r x y = absurd (cc)

module _ (t : NumTy) (a b : Operand) where
  pub commuted_pair : (op : PrimOp) → commutes op ≡ true → Equals t (a ∷ b ∷ []) (term.Pair op a.read b.read) (term.Pair op b.read a.read)
  commuted_pair op e = record {
    within = (operand_read (a ∷ []) b [], (inl refl, tt));
    same = λ type_at value known from to. turned op e t.width (value b.read) (value a.read);
  }

  module _ (type_at : Read → NumTy) (value : Read → Num) (x : Holds type_at value a) (y : Holds type_at value b) where
    abbrev first : ℤ
    first = integer_of (value_of type_at value a)

    none_second : b.term ≡ term.Number 0 → integer_of (value_of type_at value b) ≡ pos 0
    none_second e = ap (reading b.ty.signed b.ty.width) (literal_number type_at value b 0 y e) ∙ reading_zero b.ty.signed b.ty.width

    padded : a.ty.width ≤ t.width → widened (value a.read) t.width ≡ bits_of t.width first
    padded wide =
        ap (λ (v : Num). widened v t.width) (is_value type_at value a x)
        ∙ sym (bits_of-reading a.ty.signed a.ty.width (number type_at value a) t.width (below type_at value a x) wide)

  pub add_zero : (w : ℕ) → w ≡ t.width → b.term ≡ term.Number 0 → Equals t (a ∷ b ∷ []) (term.Pair Add a.read b.read) (term.Integer Pad a.read w)
  add_zero w is_wide e = pair_equals Add t a b (term.Integer Pad a.read w) (inl refl, tt) (λ f v x y is one.
      let wide : max a.ty.width b.ty.width + 1 ≡ t.width = ap (λ (u : NumTy). u.width) one.is in
      padded f v x y (omega arith) ∙ ap (bits_of t.width) (sym (ap (λ z. first f v x y +ℤ z) (none_second f v x y e) ∙ plus_none (first f v x y))))

  pub sub_zero : (w : ℕ) → w ≡ t.width → b.term ≡ term.Number 0 → Equals t (a ∷ b ∷ []) (term.Pair Sub a.read b.read) (term.Integer Pad a.read w)
  sub_zero w is_wide e = pair_equals Sub t a b (term.Integer Pad a.read w) (inl refl, tt) (λ f v x y is one.
      let wide : max a.ty.width b.ty.width + 1 ≡ t.width = ap (λ (u : NumTy). u.width) one.is in
      padded f v x y (omega arith) ∙ ap (bits_of t.width) (sym (ap (λ z. first f v x y -ℤ z) (none_second f v x y e) ∙ minus_none (first f v x y))))

  pub sub_itself : a.read ≡ b.read → Equals t (a ∷ b ∷ []) (term.Pair Sub a.read b.read) (term.Number 0)
  sub_itself e = pair_equals Sub t a b (term.Number 0) tt (λ f v x y is one.
      sym (ap (λ z. bits_of t.width (first f v x y -ℤ z)) (ap integer_of (same_value f v a b x y e))
      ∙ ap (bits_of t.width) (minus_same (first f v x y)) ∙ no_bits t.width))

  pub mul_zero : b.term ≡ term.Number 0 → Equals t (a ∷ b ∷ []) (term.Pair Mul a.read b.read) (term.Number 0)
  mul_zero e = pair_equals Mul t a b (term.Number 0) tt (λ f v x y is one.
      sym (ap (λ z. bits_of t.width (first f v x y *ℤ z)) (none_second f v x y e) ∙ ap (bits_of t.width) (*ℤ-zero (first f v x y)) ∙ no_bits t.width))

  pub div_zero : b.term ≡ term.Number 0 → Equals t (a ∷ b ∷ []) (term.Pair Div a.read b.read) (term.Number 0)
  div_zero e = pair_equals Div t a b (term.Number 0) tt (λ f v x y is one.
      sym (ap (λ z. bits_of t.width (quotient (first f v x y) z)) (none_second f v x y e) ∙ no_bits t.width))

  pub rem_zero : b.term ≡ term.Number 0 → Equals t (a ∷ b ∷ []) (term.Pair Rem a.read b.read) (term.Number 0)
  rem_zero e = pair_equals Rem t a b (term.Number 0) tt (λ f v x y is one.
      sym (ap (λ z. bits_of t.width (remainder (first f v x y) z)) (none_second f v x y e) ∙ no_bits t.width))
