-- What the rules of `and`, `or` and `xor` rest on.
use Rattle.std.proofs.Common.{◌≡◌, ℕ, ◌+◌, ◌-◌, ◌^◌, ◌<◌, max, ◌&&◌, Bool, true, false, if◌then◌else◌, [], ◌∷◌, inl, refl, sym, ap, subst, ◌∙◌, arith}
use Rattle.std.specs.Prelude.{bit_and, bit_or, bit_xor}
use Rattle.std.specs.Int.Bits.{xor_self, xor_zero_r, xor_add_and, or_add_and}
use Rattle.std.proofs.lemmas.Nat.{and_le_r, and_mask}
use Rattle.std.proofs.Math.Nat.{mod-eq_of_lt}
use Rattle.fir_bits.specs.Operators.{widened}
use Rattle.fir_bits.specs.Values.{extended, is_negative}
use Rattle.fir_bits.specs.declared.operators.PrimOp.{PrimOp}
use Rattle.fir_bits.specs.declared.operators.PrimOp.TheVariants.{And, Or, Xor, AsUInt, Pad, Not}
use Rattle.fir_bits.specs.declared.types.NumTy.{NumTy}
use Rattle.fir_bits.specs.declared.values.Num.{Num}
use Rattle.fir_net.specs.declared.reads.Read.{Read}
use Rattle.fir_fold_rules.specs.declared.operand.Operand.{Operand}
use Rattle.fir_fold_rules.specs.declared.term.Term.TheVariants as term
use Rattle.fir_fold_rules.specs.working.Rules.{Equals, Holds, IsOnes}
use Rattle.fir_fold_rules.proofs.Extensions.{extended_below, extended_own, extended_zero}
use Rattle.fir_fold_rules.proofs.RuleForms.{below, is_value, literal_number, number, one_typed, pair_equals, same_value, operand_read, value_of}
use Rattle.fir_fold_rules.proofs.Typing.{HasOne}

and_none : (x : ℕ) → bit_and x 0 ≡ 0
and_none x = omega (arith, and_le_r x 0)

and_all : (x n r : ℕ) → x < 2 ^ r → n + 1 ≡ 2 ^ r → bit_and x n ≡ x
and_all x n r h e = let is : n ≡ 2 ^ r - 1 = omega arith in ap (bit_and x) is ∙ and_mask x r ∙ mod-eq_of_lt h

and_self : (x : ℕ) → bit_and x x ≡ x
and_self x = omega (arith, xor_add_and x x, xor_self x)

or_none : (x : ℕ) → bit_or x 0 ≡ x
or_none x = omega (arith, or_add_and x 0, and_none x)

or_all : (x n r : ℕ) → x < 2 ^ r → n + 1 ≡ 2 ^ r → bit_or x n ≡ n
or_all x n r h e = omega (arith, or_add_and x n, and_all x n r h e)

or_self : (x : ℕ) → bit_or x x ≡ x
or_self x = omega (arith, or_add_and x x, and_self x)

xor_all : (x n r : ℕ) → x < 2 ^ r → n + 1 ≡ 2 ^ r → 2 ^ r - 1 - x ≡ bit_xor x n
xor_all x n r h e = omega (arith, xor_add_and x n, and_all x n r h e)

-- ones of the greater width stay ones
extended_ones : (s : Bool) (w n r : ℕ) → n < 2 ^ w → n + 1 ≡ 2 ^ r → extended s w n r ≡ n
extended_ones s w n r below e = by (s && is_negative w n)
  where
    by : (b : Bool) → (if b then n + (2 ^ r - 2 ^ w) else n) ≡ n
    by true = omega arith
    by false = refl

module _ (t : NumTy) (a b : Operand) where
  module _ (op : PrimOp) (wide : (u v : NumTy) → HasOne op (u ∷ v ∷ []) [] t → max u.width v.width ≡ t.width) (type_at : Read → NumTy) (value : Read → Num)
      (x : Holds type_at value a) (y : Holds type_at value b) where
    abbrev first : ℕ
    first = widened (value_of type_at value a) t.width

    abbrev second : ℕ
    second = widened (value_of type_at value b) t.width

    -- the operands at the width of the result
    first_below : HasOne op (a.ty ∷ b.ty ∷ []) [] t → first < 2 ^ t.width
    first_below one =
        let is = wide a.ty b.ty one in
        extended_below a.ty.signed a.ty.width (number type_at value a) t.width (below type_at value a x) (omega arith)

    none_second : b.term ≡ term.Number 0 → second ≡ 0
    none_second e = ap (λ (n : ℕ). extended b.ty.signed b.ty.width n t.width) (literal_number type_at value b 0 y e) ∙ extended_zero b.ty.signed b.ty.width t.width

    all_second : (h : IsOnes b t.width) → second ≡ h.number
    all_second h =
        let is = literal_number type_at value b h.number y h.is in
        ap (λ (n : ℕ). extended b.ty.signed b.ty.width n t.width) is
        ∙ extended_ones b.ty.signed b.ty.width h.number t.width (subst (λ (n : ℕ). n < 2 ^ b.ty.width) is (below type_at value b y)) h.ones

    same_second : a.read ≡ b.read → second ≡ first
    same_second e = ap (λ (v : Num). widened v t.width) (same_value type_at value a b x y e)

    first_padded : widened (value a.read) t.width ≡ first
    first_padded = ap (λ (v : Num). widened v t.width) (is_value type_at value a x)

    first_own : a.ty.width ≡ t.width → first ≡ number type_at value a
    first_own e = ap (λ (r : ℕ). extended a.ty.signed a.ty.width (number type_at value a) r) (sym e) ∙ extended_own a.ty.signed a.ty.width (number type_at value a)

  and_wide : (u v : NumTy) → HasOne And (u ∷ v ∷ []) [] t → max u.width v.width ≡ t.width
  and_wide u v one = ap (λ (s : NumTy). s.width) one.is

  or_wide : (u v : NumTy) → HasOne Or (u ∷ v ∷ []) [] t → max u.width v.width ≡ t.width
  or_wide u v one = ap (λ (s : NumTy). s.width) one.is

  xor_wide : (u v : NumTy) → HasOne Xor (u ∷ v ∷ []) [] t → max u.width v.width ≡ t.width
  xor_wide u v one = ap (λ (s : NumTy). s.width) one.is

  pub and_zero : b.term ≡ term.Number 0 → Equals t (a ∷ b ∷ []) (term.Pair And a.read b.read) (term.Number 0)
  and_zero e = pair_equals And t a b (term.Number 0) tt (λ type_at value x y is one.
      let none = none_second And and_wide type_at value x y e in
      sym (ap (bit_and (first And and_wide type_at value x y)) none ∙ and_none _))

  pub and_ones : (w : ℕ) → w ≡ t.width → IsOnes b t.width → Equals t (a ∷ b ∷ []) (term.Pair And a.read b.read) (term.Integer Pad a.read w)
  and_ones w e h = pair_equals And t a b (term.Integer Pad a.read w) (inl refl, tt) (λ type_at value x y is one.
      first_padded And and_wide type_at value x y
      ∙ sym (ap (bit_and (first And and_wide type_at value x y)) (all_second And and_wide type_at value x y h)
      ∙ and_all _ h.number t.width (first_below And and_wide type_at value x y one) h.ones))

  pub and_itself : a.read ≡ b.read → Equals t (a ∷ b ∷ []) (term.Pair And a.read b.read) (term.Single AsUInt a.read)
  and_itself e = pair_equals And t a b (term.Single AsUInt a.read) (inl refl, tt) (λ type_at value x y is one.
      let own = ap (λ (s : NumTy). s.width) (one_typed type_at value t AsUInt a [] x is).is in
      sym (ap (bit_and (first And and_wide type_at value x y)) (same_second And and_wide type_at value x y e)
      ∙ and_self _ ∙ first_own And and_wide type_at value x y own))

  pub or_zero : (w : ℕ) → w ≡ t.width → b.term ≡ term.Number 0 → Equals t (a ∷ b ∷ []) (term.Pair Or a.read b.read) (term.Integer Pad a.read w)
  or_zero w is_wide e = pair_equals Or t a b (term.Integer Pad a.read w) (inl refl, tt) (λ type_at value x y is one.
      first_padded Or or_wide type_at value x y
      ∙ sym (ap (bit_or (first Or or_wide type_at value x y)) (none_second Or or_wide type_at value x y e) ∙ or_none _))

  pub or_ones : IsOnes b t.width → Equals t (a ∷ b ∷ []) (term.Pair Or a.read b.read) (term.Single AsUInt b.read)
  or_ones h = pair_equals Or t a b (term.Single AsUInt b.read) (operand_read (a ∷ []) b [], tt) (λ type_at value x y is one.
      literal_number type_at value b h.number y h.is ∙ sym (ap (bit_or (first Or or_wide type_at value x y)) (all_second Or or_wide type_at value x y h)
      ∙ or_all _ h.number t.width (first_below Or or_wide type_at value x y one) h.ones))

  pub or_itself : a.read ≡ b.read → Equals t (a ∷ b ∷ []) (term.Pair Or a.read b.read) (term.Single AsUInt a.read)
  or_itself e = pair_equals Or t a b (term.Single AsUInt a.read) (inl refl, tt) (λ type_at value x y is one.
      let own = ap (λ (s : NumTy). s.width) (one_typed type_at value t AsUInt a [] x is).is in
      sym (ap (bit_or (first Or or_wide type_at value x y)) (same_second Or or_wide type_at value x y e)
      ∙ or_self _ ∙ first_own Or or_wide type_at value x y own))

  pub xor_zero : (w : ℕ) → w ≡ t.width → b.term ≡ term.Number 0 → Equals t (a ∷ b ∷ []) (term.Pair Xor a.read b.read) (term.Integer Pad a.read w)
  xor_zero w is_wide e = pair_equals Xor t a b (term.Integer Pad a.read w) (inl refl, tt) (λ type_at value x y is one.
      first_padded Xor xor_wide type_at value x y
      ∙ sym (ap (bit_xor (first Xor xor_wide type_at value x y)) (none_second Xor xor_wide type_at value x y e) ∙ xor_zero_r _))

  pub xor_ones : IsOnes b t.width → Equals t (a ∷ b ∷ []) (term.Pair Xor a.read b.read) (term.Single Not a.read)
  xor_ones h = pair_equals Xor t a b (term.Single Not a.read) (inl refl, tt) (λ type_at value x y is one.
      let own = ap (λ (s : NumTy). s.width) (one_typed type_at value t Not a [] x is).is in
      let width : (value a.read).value.width ≡ t.width = ap (λ (v : Num). v.value.width) (is_value type_at value a x) ∙ own in
      let number_is = first_own Xor xor_wide type_at value x y own in
      ap (λ (w : ℕ). 2 ^ w - 1 - number type_at value a) width
      ∙ ap (λ (n : ℕ). 2 ^ t.width - 1 - n) (sym number_is)
      ∙ xor_all _ h.number t.width (first_below Xor xor_wide type_at value x y one) h.ones
      ∙ sym (ap (bit_xor (first Xor xor_wide type_at value x y)) (all_second Xor xor_wide type_at value x y h)))

  pub xor_itself : a.read ≡ b.read → Equals t (a ∷ b ∷ []) (term.Pair Xor a.read b.read) (term.Number 0)
  xor_itself e = pair_equals Xor t a b (term.Number 0) tt (λ type_at value x y is one.
      sym (ap (bit_xor (first Xor xor_wide type_at value x y)) (same_second Xor xor_wide type_at value x y e) ∙ xor_self (first Xor xor_wide type_at value x y)))
