-- What the rules of muxes rest on.
use Rattle.std.proofs.Common.{◌≡◌, ℕ, zero, suc, ◌-◌, ◌^◌, ◌<◌, ◌≤◌, ◌==◌, Bool, true, false, if◌then◌else◌, [], ◌∷◌, inl, inr, refl, sym, ap, subst, ◌∙◌, arith}
use Rattle.fir_bits.specs.Operators.{widened}
use Rattle.fir_bits.specs.Values.{extended, fitted}
use Rattle.fir_bits.specs.declared.operators.PrimOp.TheVariants.{Not, Pad}
use Rattle.fir_bits.specs.declared.types.NumTy.{NumTy}
use Rattle.fir_bits.specs.declared.values.Num.{Num}
use Rattle.fir_net.specs.declared.reads.Read.{Read}
use Rattle.fir_net.specs.working.IsNet.{one_bit}
use Rattle.fir_net.specs.working.Values.{IsOfType, at_width, number_of}
use Rattle.fir_fold_rules.specs.declared.operand.Operand.{Operand}
use Rattle.fir_fold_rules.specs.declared.term.Term.TheVariants as term
use Rattle.fir_fold_rules.specs.working.Rules.{Equals, Holds}
use Rattle.fir_fold_rules.proofs.Extensions.{extended_twice, extended_zero, fitted_wide}
use Rattle.fir_fold_rules.proofs.RuleForms.{below, is_value, known_term, literal_number, mux_equals, number, number_below, number_is, one_typed, operand_inner, operand_read, same_value, value_of}

either : (b : Bool) (x y z : ℕ) → z ≡ x → z ≡ y → z ≡ (if b then x else y)
either true x y z e h = e
either false x y z e h = h

both : (b : Bool) (x y u v : ℕ) → (b ≡ true → x ≡ u) → (b ≡ false → y ≡ v) → (if b then x else y) ≡ (if b then u else v)
both true x y u v e h = e refl
both false x y u v e h = h refl

-- a bit as a choice between 1 and 0, and between 0 and 1
bit_choice : (n x y : ℕ) → n < 2 → x ≡ 1 → y ≡ 0 → n ≡ (if n == 1 then x else y)
bit_choice zero x y low e h = sym h
bit_choice (suc zero) x y low e h = sym e
bit_choice (suc (suc n)) x y low e h = absurd (omega arith)

turned_choice : (n x y : ℕ) → n < 2 → x ≡ 0 → y ≡ 1 → 2 ^ 1 - 1 - n ≡ (if n == 1 then x else y)
turned_choice zero x y low e h = sym h
turned_choice (suc zero) x y low e h = sym e
turned_choice (suc (suc n)) x y low e h = absurd (omega arith)

turned_arms : (n x y : ℕ) → n < 2 → (if n == 1 then y else x) ≡ (if 2 ^ 1 - 1 - n == 1 then x else y)
turned_arms zero x y low = refl
turned_arms (suc zero) x y low = refl
turned_arms (suc (suc n)) x y low = absurd (omega arith)

-- a value that is extended twice
fits_twice : (u v t : NumTy) (z : Num) → IsOfType u z → u.signed ≡ v.signed → u.width ≤ v.width → v.width ≤ t.width
    → at_width (number_of v (at_width z v.width)) t.width ≡ at_width z t.width
fits_twice u v t z is same first second =
    let n = z.value.number in
    let is_z = number_is u z is in
    let inner : at_width z v.width ≡ extended u.signed u.width n v.width = ap (λ (y : Num). at_width y v.width) is_z ∙ fitted_wide u.signed u.width n v.width first in
    ap (λ (m : ℕ). fitted v.signed v.width m t.width) inner
    ∙ fitted_wide v.signed v.width (extended u.signed u.width n v.width) t.width second
    ∙ ap (λ s. extended s v.width (extended u.signed u.width n v.width) t.width) (sym same)
    ∙ extended_twice u.signed u.width n v.width t.width (number_below u z is) first second
    ∙ sym (fitted_wide u.signed u.width n t.width (omega arith))
    ∙ sym (ap (λ (y : Num). at_width y t.width) is_z)

module _ (t : NumTy) (c a b : Operand) where
  pub mux_same : (w : ℕ) → w ≡ t.width → a.read ≡ b.read → Equals t (c ∷ a ∷ b ∷ []) (term.Mux c.read a.read b.read) (term.Integer Pad a.read w)
  mux_same w is_wide e = mux_equals t c a b (term.Integer Pad a.read w) (operand_read (c ∷ []) a (b ∷ []), tt) (λ type_at value hc x y is choice.
      let wide : a.ty.width ≤ t.width = let k = choice.3 in omega arith in
      let first = ap (λ (v : Num). widened v t.width) (is_value type_at value a x) ∙ sym (fitted_wide a.ty.signed a.ty.width (number type_at value a) t.width wide) in
      either (number type_at value c == 1) (at_width (value_of type_at value a) t.width) (at_width (value_of type_at value b) t.width) (widened (value a.read) t.width)
      first (first ∙ sym (ap (λ (v : Num). at_width v t.width) (same_value type_at value a b x y e))))

  -- arms of one bit that are literals
  zero_at : (type_at : Read → NumTy) (value : Read → Num) (o : Operand) → Holds type_at value o → o.ty.width ≤ t.width → o.term ≡ term.Number 0
      → at_width (value_of type_at value o) t.width ≡ 0
  zero_at type_at value o h wide e =
      fitted_wide o.ty.signed o.ty.width (number type_at value o) t.width wide
      ∙ ap (λ (n : ℕ). extended o.ty.signed o.ty.width n t.width) (literal_number type_at value o 0 h e) ∙ extended_zero o.ty.signed o.ty.width t.width

  one_at : (type_at : Read → NumTy) (value : Read → Num) (o : Operand) → Holds type_at value o → o.ty.width ≤ t.width → o.ty.signed ≡ false → o.term ≡ term.Number 1
      → at_width (value_of type_at value o) t.width ≡ 1
  one_at type_at value o h wide unsigned e =
      fitted_wide o.ty.signed o.ty.width (number type_at value o) t.width wide
      ∙ ap (λ (n : ℕ). extended o.ty.signed o.ty.width n t.width) (literal_number type_at value o 1 h e) ∙ ap (λ s. extended s o.ty.width 1 t.width) unsigned

  bit_below : (type_at : Read → NumTy) (value : Read → Num) → Holds type_at value c → c.ty ≡ one_bit → number type_at value c < 2
  bit_below type_at value h e = subst (λ (u : NumTy). number type_at value c < 2 ^ u.width) e (below type_at value c h)

  pub mux_bit : a.term ≡ term.Number 1 → b.term ≡ term.Number 0 → Equals t (c ∷ a ∷ b ∷ []) (term.Mux c.read a.read b.read) (term.Read c.read)
  mux_bit e f = mux_equals t c a b (term.Read c.read) (inl refl, tt) (λ type_at value hc x y is choice.
      let k = choice.3 in
      let t_is : t ≡ one_bit = sym is ∙ hc.has_type ∙ choice.0 in
      let unsigned : a.ty.signed ≡ false = choice.1 ∙ ap (λ (u : NumTy). u.signed) t_is in
      bit_choice (number type_at value c) _ _ (bit_below type_at value hc choice.0)
      (one_at type_at value a x (omega arith) unsigned e) (zero_at type_at value b y (omega arith) f))

  pub mux_turned : a.term ≡ term.Number 0 → b.term ≡ term.Number 1 → Equals t (c ∷ a ∷ b ∷ []) (term.Mux c.read a.read b.read) (term.Single Not c.read)
  mux_turned e f = mux_equals t c a b (term.Single Not c.read) (inl refl, tt) (λ type_at value hc x y is choice.
      let k = choice.3 in
      let t_is = (one_typed type_at value t Not c [] hc is).is in
      let unsigned : b.ty.signed ≡ false = choice.2 ∙ sym (ap (λ (u : NumTy). u.signed) t_is) in
      let width : (value c.read).value.width ≡ 1 = ap (λ (v : Num). v.value.width) (is_value type_at value c hc) ∙ ap (λ (u : NumTy). u.width) choice.0 in
      ap (λ (w : ℕ). 2 ^ w - 1 - number type_at value c) width
      ∙ turned_choice (number type_at value c) _ _ (bit_below type_at value hc choice.0)
      (zero_at type_at value a x (omega arith) e) (one_at type_at value b y (omega arith) unsigned f))

  pub mux_first : (d x y : Read) → a.term ≡ term.Mux d x y → d ≡ c.read → Equals t (c ∷ a ∷ b ∷ []) (term.Mux c.read a.read b.read) (term.Mux c.read x b.read)
  mux_first d x y e same = mux_equals t c a b (term.Mux c.read x b.read)
      (inl refl, (operand_inner (c ∷ []) a (b ∷ []) (term.Mux d x y) e x (inr (inl refl)), (operand_read (c ∷ a ∷ []) b [], tt))) (λ type_at value hc ha hb is choice.
      let known = known_term type_at value a (term.Mux d x y) ha e in
      let inner = known.has_type in
      let wide = inner.3 in
      let outer = choice.3 in
      both (number type_at value c == 1) _ _ _ _
      (λ one.
      let number_is : number type_at value a ≡ at_width (value x) a.ty.width =
      known.is ∙ ap (λ (q : Bool). if q then at_width (value x) a.ty.width else at_width (value y) a.ty.width)
      (ap (λ (r : Read). (value r).value.number == 1) same ∙ one) in
      sym (ap (λ (n : ℕ). at_width (number_of a.ty n) t.width) number_is
      ∙ fits_twice (type_at x) a.ty t (value x) known.reads.1.0 inner.1 (omega arith) (omega arith)))
      (λ none. ap (λ (v : Num). at_width v t.width) (is_value type_at value b hb)))

  pub mux_second : (d x y : Read) → b.term ≡ term.Mux d x y → d ≡ c.read → Equals t (c ∷ a ∷ b ∷ []) (term.Mux c.read a.read b.read) (term.Mux c.read a.read y)
  mux_second d x y e same = mux_equals t c a b (term.Mux c.read a.read y)
      (inl refl, (operand_read (c ∷ []) a (b ∷ []), (operand_inner (c ∷ a ∷ []) b [] (term.Mux d x y) e y (inr (inr (inl refl))), tt))) (λ type_at value hc ha hb is choice.
      let known = known_term type_at value b (term.Mux d x y) hb e in
      let inner = known.has_type in
      let wide = inner.3 in
      let outer = choice.3 in
      both (number type_at value c == 1) _ _ _ _
      (λ one. ap (λ (v : Num). at_width v t.width) (is_value type_at value a ha))
      (λ none.
      let number_is : number type_at value b ≡ at_width (value y) b.ty.width =
      known.is ∙ ap (λ (q : Bool). if q then at_width (value x) b.ty.width else at_width (value y) b.ty.width)
      (ap (λ (r : Read). (value r).value.number == 1) same ∙ none) in
      sym (ap (λ (n : ℕ). at_width (number_of b.ty n) t.width) number_is
      ∙ fits_twice (type_at y) b.ty t (value y) known.reads.1.1.0 inner.2 (omega arith) (omega arith))))

  pub mux_not : (d : Read) → c.term ≡ term.Single Not d → Equals t (c ∷ a ∷ b ∷ []) (term.Mux c.read a.read b.read) (term.Mux d b.read a.read)
  mux_not d e = mux_equals t c a b (term.Mux d b.read a.read)
      (operand_inner [] c (a ∷ b ∷ []) (term.Single Not d) e d (inl refl), (operand_read (c ∷ a ∷ []) b [], (operand_read (c ∷ []) a (b ∷ []), tt)))
      (λ type_at value hc ha hb is choice.
      let known = known_term type_at value c (term.Single Not d) hc e in
      let n = (value d).value.number in
      let low : n < 2 = subst (λ (u : NumTy). n < 2 ^ u.width) is.0 (number_below (type_at d) (value d) known.reads.0) in
      let width : (value d).value.width ≡ 1 = ap (λ (u : NumTy). u.width) (known.reads.0.is ∙ is.0) in
      let condition : number type_at value c ≡ 2 ^ 1 - 1 - n = known.is ∙ ap (λ w. 2 ^ w - 1 - n) width in
      let x = at_width (value_of type_at value a) t.width in
      let y = at_width (value_of type_at value b) t.width in
      both (n == 1) (at_width (value b.read) t.width) (at_width (value a.read) t.width) y x
      (λ one. ap (λ (v : Num). at_width v t.width) (is_value type_at value b hb)) (λ none. ap (λ (v : Num). at_width v t.width) (is_value type_at value a ha))
      ∙ turned_arms n x y low
      ∙ ap (λ (m : ℕ). if m == 1 then x else y) (sym condition))
