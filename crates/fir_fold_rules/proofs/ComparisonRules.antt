-- What the rules of comparisons rest on.
use Rattle.std.proofs.Common.{◌≡◌, ℕ, zero, suc, ◌-◌, ◌^◌, ◌<◌, Bool, true, false, not, [], ◌∷◌, inl, refl, sym, ap, subst, ◌∙◌, arith, ℤ, pos, negsuc}
use Rattle.std.specs.Prelude.{int_le, int_lt}
use Rattle.std.specs.Bool.{beq}
use Rattle.std.specs.Ordering.{int_eq}
use Rattle.std.proofs.lemmas.Bool.{le-leb, le-ltb}
use Rattle.std.proofs.lemmas.Cmp.{int_eq_equiv}
use Rattle.fir_bits.specs.Integers.{reading}
use Rattle.fir_bits.specs.Operators.{flag, integer_of}
use Rattle.fir_bits.specs.declared.operators.PrimOp.TheVariants.{Eq, Geq, Gt, Leq, Lt, Neq, Not}
use Rattle.fir_bits.specs.declared.types.NumTy.{NumTy}
use Rattle.fir_bits.specs.declared.values.Num.{Num}
use Rattle.fir_net.specs.declared.reads.Read.{Read}
use Rattle.fir_fold_rules.specs.declared.operand.Operand.{Operand}
use Rattle.fir_fold_rules.specs.declared.term.Term.TheVariants as term
use Rattle.fir_fold_rules.specs.working.Rules.{Equals, Holds}
use Rattle.fir_fold_rules.proofs.RuleForms.{below, is_value, literal_number, number, pair_equals, same_value, value_of}

le_same : (z : ℤ) → int_le z z ≡ true
le_same (pos n) = le-leb n n (omega arith)
le_same (negsuc n) = le-leb n n (omega arith)

lt_same : (z : ℤ) → int_lt z z ≡ false
lt_same (pos n) = le-ltb n n (omega arith)
lt_same (negsuc n) = le-ltb n n (omega arith)

eq_same : (z : ℤ) → int_eq z z ≡ true
eq_same z = int_eq_equiv.refl z

alike : (s u : Bool) → beq s u ≡ true → s ≡ false → u ≡ false
alike true u h e = cc
alike false true h e = cc
alike false false h e = refl

bit_is : (n : ℕ) → n < 2 → n ≡ flag (int_eq (pos n) (pos 1))
bit_is zero low = refl
bit_is (suc zero) low = refl
bit_is (suc (suc n)) low = absurd (omega arith)

bit_differs : (n : ℕ) → n < 2 → n ≡ flag (not (int_eq (pos n) (pos 0)))
bit_differs zero low = refl
bit_differs (suc zero) low = refl
bit_differs (suc (suc n)) low = absurd (omega arith)

turned_is : (n : ℕ) → n < 2 → 2 ^ 1 - 1 - n ≡ flag (int_eq (pos n) (pos 0))
turned_is zero low = refl
turned_is (suc zero) low = refl
turned_is (suc (suc n)) low = absurd (omega arith)

turned_differs : (n : ℕ) → n < 2 → 2 ^ 1 - 1 - n ≡ flag (not (int_eq (pos n) (pos 1)))
turned_differs zero low = refl
turned_differs (suc zero) low = refl
turned_differs (suc (suc n)) low = absurd (omega arith)

module _ (t : NumTy) (a b : Operand) where
  -- an operand compared with itself
  module _ (e : a.read ≡ b.read) (type_at : Read → NumTy) (value : Read → Num) (x : Holds type_at value a) (y : Holds type_at value b) where
    abbrev first : ℤ
    first = integer_of (value_of type_at value a)

    same_integer : integer_of (value_of type_at value b) ≡ first
    same_integer = ap integer_of (same_value type_at value a b x y e)

  pub eq_itself : a.read ≡ b.read → Equals t (a ∷ b ∷ []) (term.Pair Eq a.read b.read) (term.Number 1)
  eq_itself e = pair_equals Eq t a b (term.Number 1) tt (λ f v x y is one. let z = first e f v x y in sym (ap (λ w. flag (int_eq z w)) (same_integer e f v x y) ∙ ap flag (eq_same z)))

  pub neq_itself : a.read ≡ b.read → Equals t (a ∷ b ∷ []) (term.Pair Neq a.read b.read) (term.Number 0)
  neq_itself e = pair_equals Neq t a b (term.Number 0) tt (λ f v x y is one.
      let z = first e f v x y in sym (ap (λ w. flag (not (int_eq z w))) (same_integer e f v x y) ∙ ap (λ q. flag (not q)) (eq_same z)))

  pub leq_itself : a.read ≡ b.read → Equals t (a ∷ b ∷ []) (term.Pair Leq a.read b.read) (term.Number 1)
  leq_itself e = pair_equals Leq t a b (term.Number 1) tt (λ f v x y is one. let z = first e f v x y in sym (ap (λ w. flag (int_le z w)) (same_integer e f v x y) ∙ ap flag (le_same z)))

  pub geq_itself : a.read ≡ b.read → Equals t (a ∷ b ∷ []) (term.Pair Geq a.read b.read) (term.Number 1)
  geq_itself e = pair_equals Geq t a b (term.Number 1) tt (λ f v x y is one. let z = first e f v x y in sym (ap (λ w. flag (int_le w z)) (same_integer e f v x y) ∙ ap flag (le_same z)))

  pub lt_itself : a.read ≡ b.read → Equals t (a ∷ b ∷ []) (term.Pair Lt a.read b.read) (term.Number 0)
  lt_itself e = pair_equals Lt t a b (term.Number 0) tt (λ f v x y is one. let z = first e f v x y in sym (ap (λ w. flag (int_lt z w)) (same_integer e f v x y) ∙ ap flag (lt_same z)))

  pub gt_itself : a.read ≡ b.read → Equals t (a ∷ b ∷ []) (term.Pair Gt a.read b.read) (term.Number 0)
  gt_itself e = pair_equals Gt t a b (term.Number 0) tt (λ f v x y is one. let z = first e f v x y in sym (ap (λ w. flag (int_lt w z)) (same_integer e f v x y) ∙ ap flag (lt_same z)))

  -- UInts stand for their numbers
  module _ (type_at : Read → NumTy) (value : Read → Num) (x : Holds type_at value a) (y : Holds type_at value b) (unsigned : a.ty.signed ≡ false) where
    first_is : integer_of (value_of type_at value a) ≡ pos (number type_at value a)
    first_is = ap (λ s. reading s a.ty.width (number type_at value a)) unsigned

    second_is : (n : ℕ) → b.term ≡ term.Number n → beq a.ty.signed b.ty.signed ≡ true → integer_of (value_of type_at value b) ≡ pos n
    second_is n e kinds =
        ap (λ s. reading s b.ty.width (number type_at value b)) (alike a.ty.signed b.ty.signed kinds unsigned) ∙ ap pos (literal_number type_at value b n y e)

    bit_below : a.ty.width ≡ 1 → number type_at value a < 2
    bit_below e = subst (λ (w : ℕ). number type_at value a < 2 ^ w) e (below type_at value a x)

    turned : a.ty.width ≡ 1 → 2 ^ (value a.read).value.width - 1 - number type_at value a ≡ 2 ^ 1 - 1 - number type_at value a
    turned e = ap (λ (w : ℕ). 2 ^ w - 1 - number type_at value a) (ap (λ (v : Num). v.value.width) (is_value type_at value a x) ∙ e)

  pub eq_one : (a.ty.signed ≡ false) × (a.ty.width ≡ 1) → b.term ≡ term.Number 1 → Equals t (a ∷ b ∷ []) (term.Pair Eq a.read b.read) (term.Read a.read)
  eq_one bit e = pair_equals Eq t a b (term.Read a.read) (inl refl, tt) (λ f v x y is one.
      bit_is (number f v a) (bit_below f v x y bit.0 bit.1)
      ∙ sym (ap (λ z. flag (int_eq z (integer_of (value_of f v b)))) (first_is f v x y bit.0)
      ∙ ap (λ z. flag (int_eq (pos (number f v a)) z)) (second_is f v x y bit.0 1 e one.kinds)))

  pub eq_zero : (a.ty.signed ≡ false) × (a.ty.width ≡ 1) → b.term ≡ term.Number 0 → Equals t (a ∷ b ∷ []) (term.Pair Eq a.read b.read) (term.Single Not a.read)
  eq_zero bit e = pair_equals Eq t a b (term.Single Not a.read) (inl refl, tt) (λ f v x y is one.
      turned f v x y bit.0 bit.1 ∙ turned_is (number f v a) (bit_below f v x y bit.0 bit.1)
      ∙ sym (ap (λ z. flag (int_eq z (integer_of (value_of f v b)))) (first_is f v x y bit.0)
      ∙ ap (λ z. flag (int_eq (pos (number f v a)) z)) (second_is f v x y bit.0 0 e one.kinds)))

  pub neq_zero : (a.ty.signed ≡ false) × (a.ty.width ≡ 1) → b.term ≡ term.Number 0 → Equals t (a ∷ b ∷ []) (term.Pair Neq a.read b.read) (term.Read a.read)
  neq_zero bit e = pair_equals Neq t a b (term.Read a.read) (inl refl, tt) (λ f v x y is one.
      bit_differs (number f v a) (bit_below f v x y bit.0 bit.1)
      ∙ sym (ap (λ z. flag (not (int_eq z (integer_of (value_of f v b))))) (first_is f v x y bit.0)
      ∙ ap (λ z. flag (not (int_eq (pos (number f v a)) z))) (second_is f v x y bit.0 0 e one.kinds)))

  pub neq_one : (a.ty.signed ≡ false) × (a.ty.width ≡ 1) → b.term ≡ term.Number 1 → Equals t (a ∷ b ∷ []) (term.Pair Neq a.read b.read) (term.Single Not a.read)
  neq_one bit e = pair_equals Neq t a b (term.Single Not a.read) (inl refl, tt) (λ f v x y is one.
      turned f v x y bit.0 bit.1 ∙ turned_differs (number f v a) (bit_below f v x y bit.0 bit.1)
      ∙ sym (ap (λ z. flag (not (int_eq z (integer_of (value_of f v b))))) (first_is f v x y bit.0)
      ∙ ap (λ z. flag (not (int_eq (pos (number f v a)) z))) (second_is f v x y bit.0 1 e one.kinds)))

  pub lt_zero : a.ty.signed ≡ false → b.term ≡ term.Number 0 → Equals t (a ∷ b ∷ []) (term.Pair Lt a.read b.read) (term.Number 0)
  lt_zero unsigned e = pair_equals Lt t a b (term.Number 0) tt (λ f v x y is one.
      sym (ap (λ z. flag (int_lt z (integer_of (value_of f v b)))) (first_is f v x y unsigned)
      ∙ ap (λ z. flag (int_lt (pos (number f v a)) z)) (second_is f v x y unsigned 0 e one.kinds)
      ∙ ap flag (le-ltb (number f v a) 0 (omega arith))))

  pub geq_zero : a.ty.signed ≡ false → b.term ≡ term.Number 0 → Equals t (a ∷ b ∷ []) (term.Pair Geq a.read b.read) (term.Number 1)
  geq_zero unsigned e = pair_equals Geq t a b (term.Number 1) tt (λ f v x y is one.
      sym (ap (λ z. flag (int_le (integer_of (value_of f v b)) z)) (first_is f v x y unsigned)
      ∙ ap (λ z. flag (int_le z (pos (number f v a)))) (second_is f v x y unsigned 0 e one.kinds)
      ∙ ap flag (le-leb 0 (number f v a) (omega arith))))
