-- What the rules of conversions and of operators that keep a value rest on.
use Rattle.std.proofs.Common.{◌≡◌, ℕ, zero, suc, ◌-◌, ◌^◌, ◌<◌, ◌≤◌, ◌==◌, ◌%◌, max, false, not, [], ◌∷◌, inl, refl, sym, ap, subst, ◌∙◌, arith}
use lib.Count.{ones}
use lib.IntN.{one}
use Rattle.std.specs.Prelude.{count_ones, ℤ, pos, ◌*ℤ◌}
use Rattle.std.proofs.Math.IntN.{*ℤ-one}
use Rattle.fir_bits.specs.Integers.{bits_of, reading}
use Rattle.fir_bits.specs.Operators.{flag}
use Rattle.fir_bits.specs.Values.{complement, extended}
use Rattle.fir_bits.specs.declared.operators.PrimOp.TheVariants.{Andr, AsSInt, AsUInt, Cvt, Not, Orr, Pad, Shl, Xorr}
use Rattle.fir_bits.specs.declared.types.NumTy.{NumTy}
use Rattle.fir_bits.specs.declared.values.Num.{Num}
use Rattle.fir_net.specs.declared.reads.Read.{Read}
use Rattle.fir_fold_rules.specs.declared.operand.Operand.{Operand}
use Rattle.fir_fold_rules.specs.declared.term.Term.TheVariants as term
use Rattle.fir_fold_rules.specs.working.Rules.{Equals, Holds}
use Rattle.fir_fold_rules.proofs.Extensions.{bits_of-reading, extended_own, extended_twice}
use Rattle.fir_fold_rules.proofs.RuleForms.{below, integer_equals, known_term, number, number_below, number_is, operand_inner, single_equals}
use Rattle.fir_fold_rules.proofs.Typing.{has_one}

once : (z : ℤ) → z *ℤ pos (2 ^ 0) ≡ z
unfolding one
once z = *ℤ-one z

-- a bit and its reductions
and_bit : (n : ℕ) → n < 2 → n ≡ flag (n == 2 ^ 1 - 1)
and_bit zero low = refl
and_bit (suc zero) low = refl
and_bit (suc (suc n)) low = absurd (omega arith)

or_bit : (n : ℕ) → n < 2 → n ≡ flag (not (n == 0))
or_bit zero low = refl
or_bit (suc zero) low = refl
or_bit (suc (suc n)) low = absurd (omega arith)

xor_bit : (n : ℕ) → n < 2 → n ≡ count_ones n % 2
unfolding ones
xor_bit zero low = refl
xor_bit (suc zero) low = refl
xor_bit (suc (suc n)) low = absurd (omega arith)

module _ (t : NumTy) (a : Operand) where
  own_width : (type_at : Read → NumTy) (value : Read → Num) → Holds type_at value a → type_at a.read ≡ t → a.ty.width ≡ t.width
  own_width type_at value h is = ap (λ (u : NumTy). u.width) (sym h.has_type ∙ is)

  own_number : (type_at : Read → NumTy) (value : Read → Num) → Holds type_at value a → type_at a.read ≡ t
      → number type_at value a ≡ extended a.ty.signed a.ty.width (number type_at value a) t.width
  own_number type_at value h is =
      let n = number type_at value a in
      sym (ap (λ (r : ℕ). extended a.ty.signed a.ty.width n r) (sym (own_width type_at value h is)) ∙ extended_own a.ty.signed a.ty.width n)

  pub pad_none : (n : ℕ) → Equals t (a ∷ []) (term.Integer Pad a.read n) (term.Read a.read)
  pad_none n = integer_equals Pad t a (term.Read a.read) n (inl refl, tt) (λ type_at value h is one. own_number type_at value h is)

  pub unsigned_none : Equals t (a ∷ []) (term.Single AsUInt a.read) (term.Read a.read)
  unsigned_none = single_equals AsUInt t a (term.Read a.read) (inl refl, tt) (λ type_at value h is one. refl)

  pub signed_none : Equals t (a ∷ []) (term.Single AsSInt a.read) (term.Read a.read)
  signed_none = single_equals AsSInt t a (term.Read a.read) (inl refl, tt) (λ type_at value h is one. refl)

  pub cvt_none : Equals t (a ∷ []) (term.Single Cvt a.read) (term.Read a.read)
  cvt_none = single_equals Cvt t a (term.Read a.read) (inl refl, tt) (λ type_at value h is one.
      let wide : a.ty.width ≤ t.width = let w = own_width type_at value h is in omega arith in
      own_number type_at value h is ∙ sym (bits_of-reading a.ty.signed a.ty.width (number type_at value a) t.width (below type_at value a h) wide))

  pub shl_none : (n : ℕ) → n ≡ 0 → Equals t (a ∷ []) (term.Integer Shl a.read n) (term.Read a.read)
  shl_none n none = integer_equals Shl t a (term.Read a.read) n (inl refl, tt) (λ type_at value h is one.
      let wide : a.ty.width ≤ t.width = let w = own_width type_at value h is in omega arith in
      let z = reading a.ty.signed a.ty.width (number type_at value a) in
      own_number type_at value h is ∙ sym (bits_of-reading a.ty.signed a.ty.width (number type_at value a) t.width (below type_at value a h) wide)
      ∙ sym (ap (λ k. bits_of t.width (z *ℤ pos (2 ^ k))) none ∙ ap (bits_of t.width) (once z)))

  -- operations that keep the bits
  pub unsigned_kept : (y : Read) → a.term ≡ term.Single AsSInt y → Equals t (a ∷ []) (term.Single AsUInt a.read) (term.Single AsUInt y)
  unsigned_kept y e = single_equals AsUInt t a (term.Single AsUInt y) (operand_inner [] a [] (term.Single AsSInt y) e y (inl refl), tt)
      (λ type_at value h is one. sym (known_term type_at value a (term.Single AsSInt y) h e).is)

  pub signed_kept : (y : Read) → a.term ≡ term.Single AsUInt y → Equals t (a ∷ []) (term.Single AsSInt a.read) (term.Single AsSInt y)
  signed_kept y e = single_equals AsSInt t a (term.Single AsSInt y) (operand_inner [] a [] (term.Single AsUInt y) e y (inl refl), tt)
      (λ type_at value h is one. sym (known_term type_at value a (term.Single AsUInt y) h e).is)

  -- reductions of one bit
  bit_below : (type_at : Read → NumTy) (value : Read → Num) → Holds type_at value a → a.ty.width ≡ 1 → number type_at value a < 2
  bit_below type_at value h e = subst (λ (w : ℕ). number type_at value a < 2 ^ w) e (below type_at value a h)

  pub andr_bit : a.ty.width ≡ 1 → Equals t (a ∷ []) (term.Single Andr a.read) (term.Single AsUInt a.read)
  andr_bit e = single_equals Andr t a (term.Single AsUInt a.read) (inl refl, tt) (λ type_at value h is one.
      and_bit (number type_at value a) (bit_below type_at value h e) ∙ ap (λ (w : ℕ). flag (number type_at value a == 2 ^ w - 1)) (sym e))

  pub orr_bit : a.ty.width ≡ 1 → Equals t (a ∷ []) (term.Single Orr a.read) (term.Single AsUInt a.read)
  orr_bit e = single_equals Orr t a (term.Single AsUInt a.read) (inl refl, tt) (λ type_at value h is one. or_bit (number type_at value a) (bit_below type_at value h e))

  pub xorr_bit : a.ty.width ≡ 1 → Equals t (a ∷ []) (term.Single Xorr a.read) (term.Single AsUInt a.read)
  xorr_bit e = single_equals Xorr t a (term.Single AsUInt a.read) (inl refl, tt) (λ type_at value h is one. xor_bit (number type_at value a) (bit_below type_at value h e))

  pub not_twice : (y : Read) → a.term ≡ term.Single Not y → Equals t (a ∷ []) (term.Single Not a.read) (term.Single AsUInt y)
  not_twice y e = single_equals Not t a (term.Single AsUInt y) (operand_inner [] a [] (term.Single Not y) e y (inl refl), tt) (λ type_at value h is one.
      let known = known_term type_at value a (term.Single Not y) h e in
      let inner = has_one Not (type_at y ∷ []) [] a.ty known.has_type in
      let n = (value y).value.number in
      let width : (value y).value.width ≡ a.ty.width = ap (λ (u : NumTy). u.width) (known.reads.0.is ∙ ty_is type_at y inner.is) in
      let low : n < 2 ^ a.ty.width = subst (λ (w : ℕ). n < 2 ^ w) width known.reads.0.bits.below in
      let is_number : number type_at value a ≡ 2 ^ a.ty.width - 1 - n = known.is ∙ ap (λ (w : ℕ). 2 ^ w - 1 - n) width in
      twice (2 ^ a.ty.width) n low ∙ sym (ap (complement a.ty.width) is_number))
    where
      twice : (p n : ℕ) → n < p → n ≡ p - 1 - (p - 1 - n)
      twice p n h = omega arith

      ty_is : (type_at : Read → NumTy) (z : Read) → record { signed = false; width = (type_at z).width } ≡ a.ty → type_at z ≡ record { signed = (type_at z).signed; width = a.ty.width }
      ty_is type_at z f = ap (λ (w : ℕ). record { signed = (type_at z).signed; width = w }) (ap (λ (u : NumTy). u.width) f)

  pub pad_twice : (y : Read) (m n : ℕ) → a.term ≡ term.Integer Pad y m → Equals t (a ∷ []) (term.Integer Pad a.read n) (term.Integer Pad y n)
  pad_twice y m n e = integer_equals Pad t a (term.Integer Pad y n) n (operand_inner [] a [] (term.Integer Pad y m) e y (inl refl), tt) (λ type_at value h is one.
      let known = known_term type_at value a (term.Integer Pad y m) h e in
      let inner = (has_one Pad (type_at y ∷ []) (m ∷ []) a.ty known.has_type).is in
      let outer = one.is in
      let u = type_at y in
      let k = (value y).value.number in
      let wide : max u.width m ≡ a.ty.width = ap (λ (s : NumTy). s.width) inner in
      let wider : max a.ty.width n ≡ t.width = ap (λ (s : NumTy). s.width) outer in
      let same : u.signed ≡ a.ty.signed = ap (λ (s : NumTy). s.signed) inner in
      let is_y = number_is u (value y) known.reads.0 in
      let number_at : (r : ℕ) → extended (value y).signed (value y).value.width k r ≡ extended u.signed u.width k r =
      (λ r. ap (λ (v : Num). extended v.signed v.value.width v.value.number r) is_y) in
      number_at t.width
      ∙ sym (extended_twice u.signed u.width k a.ty.width t.width (number_below u (value y) known.reads.0) (omega arith) (omega arith))
      ∙ ap (λ s. extended s a.ty.width (extended u.signed u.width k a.ty.width) t.width) same
      ∙ ap (λ (x : ℕ). extended a.ty.signed a.ty.width x t.width) (sym (number_at a.ty.width) ∙ sym known.is))
