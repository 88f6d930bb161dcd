-- What the rules of `bits`, `head`, `tail` and `cat` rest on.
use Rattle.std.proofs.Common.{◌≡◌, ℕ, ◌+◌, ◌-◌, ◌*◌, ◌/◌, ◌%◌, ◌^◌, ◌<◌, ◌≤◌, max, Bool, true, false, if◌then◌else◌, [], ◌∷◌, inl, inr, refl, sym, ap, subst, ◌∙◌, arith}
use Rattle.std.specs.Prelude.{nat_le, nat_lt}
use Rattle.std.proofs.lemmas.Bool.{and_parts, leb-true, ltb-true}
use Rattle.std.proofs.lemmas.Nat.{field_of, mod-pow-add, mod_below, mod_low, pow_pos, shr-shr, shr_below, shr_high}
use Rattle.std.proofs.Math.Nat.{mod-eq_of_lt}
use Rattle.fir_bits.specs.Integers.{bits_of, reading, shifted_down}
use Rattle.fir_bits.specs.Operators.{integer_of}
use Rattle.fir_bits.specs.Values.{extended}
use Rattle.fir_bits.specs.declared.operators.PrimOp.TheVariants.{AsSInt, AsUInt, Bits, Cat, Cvt, Head, Pad, Shr, Tail}
use Rattle.fir_bits.specs.declared.types.NumTy.{NumTy}
use Rattle.fir_bits.specs.declared.values.Num.{Num}
use Rattle.fir_bits.proofs.Readings.{low_bits-extended}
use Rattle.fir_net.specs.declared.reads.Read.{Read}
use Rattle.fir_fold_rules.specs.declared.operand.Operand.{Operand}
use Rattle.fir_fold_rules.specs.declared.term.Term.TheVariants as term
use Rattle.fir_fold_rules.specs.working.Rules.{Equals, Holds}
use Rattle.fir_fold_rules.proofs.Extensions.{bits_of-reading}
use Rattle.fir_fold_rules.proofs.RuleForms.{below, integer_equals, known_term, number, number_below, number_is, operand_inner, operand_read, pair_equals, range_equals}
use Rattle.fir_fold_rules.proofs.Typing.{HasOne, has_one}

mod_less : (x i j : ℕ) → j ≤ i → x % 2 ^ i % 2 ^ j ≡ x % 2 ^ j
mod_less x i j h =
    let sum : i ≡ i - j + j = omega arith in
    ap (λ k. x % 2 ^ k % 2 ^ j) sum ∙ ap (λ y. y % 2 ^ j) (mod-pow-add x (i - j) j)
    ∙ mod_low (x / 2 ^ j % 2 ^ (i - j)) j (x % 2 ^ j) (mod_below x (2 ^ j) (pow_pos j))

-- bits that lie within the low bits are theirs
part : (x w l j : ℕ) → l + j ≤ w → x % 2 ^ w / 2 ^ l % 2 ^ j ≡ x / 2 ^ l % 2 ^ j
part x w l j h =
    let sum : w ≡ w - l + l = omega arith in
    ap (λ k. x % 2 ^ k / 2 ^ l % 2 ^ j) sum ∙ ap (λ y. y % 2 ^ j) (field_of x (w - l) l) ∙ mod_less (x / 2 ^ l) (w - l) j (omega arith)

div_none : (x : ℕ) → x / 2 ^ 0 ≡ x
div_none x = omega arith

whole : (x n m w : ℕ) → m ≡ 0 → n + 1 ≡ w → x < 2 ^ w → x ≡ x / 2 ^ m % 2 ^ (n + 1 - m)
whole x n m w none e h =
    let width : n + 1 - m ≡ w = omega arith in
    sym (ap (λ k. x / 2 ^ m % 2 ^ k) width ∙ ap (λ y. y % 2 ^ w) (ap (λ k. x / 2 ^ k) none ∙ div_none x) ∙ mod-eq_of_lt h)

-- which bits there are
record IsRange (w n m : ℕ) : Type 0 where
  low : m ≤ n
  high : n < w

is_range : (t u : NumTy) (n m : ℕ) → HasOne Bits (u ∷ []) (n ∷ m ∷ []) t → IsRange u.width n m
is_range t u n m one =
    let h = and_parts (nat_le m n) (nat_lt n u.width) one.legal in
    record { low = leb-true m n h.0; high = ltb-true n u.width h.1 }

module _ (t : NumTy) (a : Operand) where
  pub bits_whole : (n m : ℕ) → m ≡ 0 → n + 1 ≡ a.ty.width → Equals t (a ∷ []) (term.Range Bits a.read n m) (term.Single AsUInt a.read)
  bits_whole n m none e = range_equals Bits t a (term.Single AsUInt a.read) n m (inl refl, tt) (λ type_at value h is one.
      whole (number type_at value a) n m a.ty.width none e (below type_at value a h))

  pub bits_bits : (n m : ℕ) (y : Read) (g k high low : ℕ) → a.term ≡ term.Range Bits y g k → high ≡ n + k → low ≡ m + k
      → Equals t (a ∷ []) (term.Range Bits a.read n m) (term.Range Bits y high low)
  bits_bits n m y g k high low e is_high is_low =
      range_equals Bits t a (term.Range Bits y high low) n m (operand_inner [] a [] (term.Range Bits y g k) e y (inl refl), tt) (λ type_at value h is one.
      let known = known_term type_at value a (term.Range Bits y g k) h e in
      let inner = has_one Bits (type_at y ∷ []) (g ∷ k ∷ []) a.ty known.has_type in
      let width : g + 1 - k ≡ a.ty.width = ap (λ (u : NumTy). u.width) inner.is in
      let range = is_range t a.ty n m one in
      let low_in = range.low in
      let high_in = range.high in
      let x = (value y).value.number in
      let count : high + 1 - low ≡ n + 1 - m = omega arith in
      let shift : low ≡ k + m = omega arith in
      ap (λ j. x / 2 ^ low % 2 ^ j) count
      ∙ ap (λ q. q % 2 ^ (n + 1 - m)) (ap (λ q. x / 2 ^ q) shift ∙ sym (shr-shr x k m))
      ∙ sym (part (x / 2 ^ k) (g + 1 - k) m (n + 1 - m) (omega arith))
      ∙ ap (λ q. q / 2 ^ m % 2 ^ (n + 1 - m)) (sym known.is))

  -- the low bits of the operand are those of what it reads
  module _ (n m : ℕ) (y : Read)
      (within : (type_at : Read → NumTy) (value : Read → Num) → Holds type_at value a → number type_at value a % 2 ^ a.inner.width ≡ (value y).value.number)
      (high : n < a.inner.width) where
    low_numbers : (type_at : Read → NumTy) (value : Read → Num) → Holds type_at value a → HasOne Bits (a.ty ∷ []) (n ∷ m ∷ []) t
        → (value y).value.number / 2 ^ m % 2 ^ (n + 1 - m) ≡ number type_at value a / 2 ^ m % 2 ^ (n + 1 - m)
    low_numbers type_at value h one =
        let range = is_range t a.ty n m one in
        let low_in = range.low in
        ap (λ q. q / 2 ^ m % 2 ^ (n + 1 - m)) (sym (within type_at value h)) ∙ part (number type_at value a) a.inner.width m (n + 1 - m) (omega arith)

  pub bits_unsigned : (n m : ℕ) (y : Read) → a.term ≡ term.Single AsUInt y → n < a.inner.width → Equals t (a ∷ []) (term.Range Bits a.read n m) (term.Range Bits y n m)
  bits_unsigned n m y e high =
      range_equals Bits t a (term.Range Bits y n m) n m (operand_inner [] a [] (term.Single AsUInt y) e y (inl refl), tt) (λ type_at value h is one.
      low_numbers n m y (λ f v k.
      let known = known_term f v a (term.Single AsUInt y) k e in
      ap (λ q. q % 2 ^ a.inner.width) known.is
      ∙ mod-eq_of_lt (subst (λ (u : NumTy). (v y).value.number < 2 ^ u.width) (sym known.inner) (number_below (f y) (v y) known.reads.0)))
      high type_at value h one)

  pub bits_signed : (n m : ℕ) (y : Read) → a.term ≡ term.Single AsSInt y → n < a.inner.width → Equals t (a ∷ []) (term.Range Bits a.read n m) (term.Range Bits y n m)
  bits_signed n m y e high =
      range_equals Bits t a (term.Range Bits y n m) n m (operand_inner [] a [] (term.Single AsSInt y) e y (inl refl), tt) (λ type_at value h is one.
      low_numbers n m y (λ f v k.
      let known = known_term f v a (term.Single AsSInt y) k e in
      ap (λ q. q % 2 ^ a.inner.width) known.is
      ∙ mod-eq_of_lt (subst (λ (u : NumTy). (v y).value.number < 2 ^ u.width) (sym known.inner) (number_below (f y) (v y) known.reads.0)))
      high type_at value h one)

  pub bits_pad : (n m : ℕ) (y : Read) (k : ℕ) → a.term ≡ term.Integer Pad y k → n < a.inner.width → Equals t (a ∷ []) (term.Range Bits a.read n m) (term.Range Bits y n m)
  bits_pad n m y k e high =
      range_equals Bits t a (term.Range Bits y n m) n m (operand_inner [] a [] (term.Integer Pad y k) e y (inl refl), tt) (λ type_at value h is one.
      low_numbers n m y (λ f v q.
      let known = known_term f v a (term.Integer Pad y k) q e in
      let u = f y in
      let wide : max u.width k ≡ a.ty.width = ap (λ (s : NumTy). s.width) (has_one Pad (u ∷ []) (k ∷ []) a.ty known.has_type).is in
      ap (λ x. x % 2 ^ a.inner.width) known.is
      ∙ ap (λ (s : NumTy). extended (v y).signed (v y).value.width (v y).value.number a.ty.width % 2 ^ s.width) known.inner
      ∙ ap (λ (x : Num). extended x.signed x.value.width x.value.number a.ty.width % 2 ^ u.width) (number_is u (v y) known.reads.0)
      ∙ low_bits-extended u.signed u.width (v y).value.number a.ty.width (number_below u (v y) known.reads.0) (omega arith))
      high type_at value h one)

  pub bits_cvt : (n m : ℕ) (y : Read) → a.term ≡ term.Single Cvt y → n < a.inner.width → Equals t (a ∷ []) (term.Range Bits a.read n m) (term.Range Bits y n m)
  bits_cvt n m y e high =
      range_equals Bits t a (term.Range Bits y n m) n m (operand_inner [] a [] (term.Single Cvt y) e y (inl refl), tt) (λ type_at value h is one.
      low_numbers n m y (λ f v q.
      let known = known_term f v a (term.Single Cvt y) q e in
      let u = f y in
      let wide : (if u.signed then u.width else u.width + 1) ≡ a.ty.width = ap (λ (s : NumTy). s.width) (has_one Cvt (u ∷ []) [] a.ty known.has_type).is in
      let wider = subst (λ w. u.width ≤ w) wide (no_less u.signed u.width) in
      ap (λ x. x % 2 ^ a.inner.width) known.is
      ∙ ap (λ (s : NumTy). bits_of a.ty.width (integer_of (v y)) % 2 ^ s.width) known.inner
      ∙ ap (λ (x : Num). bits_of a.ty.width (integer_of x) % 2 ^ u.width) (number_is u (v y) known.reads.0)
      ∙ ap (λ x. x % 2 ^ u.width) (bits_of-reading u.signed u.width (v y).value.number a.ty.width (number_below u (v y) known.reads.0) wider)
      ∙ low_bits-extended u.signed u.width (v y).value.number a.ty.width (number_below u (v y) known.reads.0) wider)
      high type_at value h one)
    where
      no_less : (s : Bool) (w : ℕ) → w ≤ (if s then w else w + 1)
      no_less true w = omega arith
      no_less false w = omega arith

  -- the number of bits side by side
  cat_number : (y z : Read) (type_at : Read → NumTy) (value : Read → Num) → Holds type_at value a → a.term ≡ term.Pair Cat y z
      → number type_at value a ≡ (value y).value.number * 2 ^ a.inner.width + (value z).value.number
  cat_number y z type_at value h e =
      let known = known_term type_at value a (term.Pair Cat y z) h e in
      let width : (value z).value.width ≡ a.inner.width = ap (λ (u : NumTy). u.width) (known.reads.1.0.is ∙ sym known.inner) in
      known.is ∙ ap (λ w. (value y).value.number * 2 ^ w + (value z).value.number) width

  cat_low : (y z : Read) (type_at : Read → NumTy) (value : Read → Num) → Holds type_at value a → a.term ≡ term.Pair Cat y z → (value z).value.number < 2 ^ a.inner.width
  cat_low y z type_at value h e =
      let known = known_term type_at value a (term.Pair Cat y z) h e in
      subst (λ (u : NumTy). (value z).value.number < 2 ^ u.width) (sym known.inner) (number_below (type_at z) (value z) known.reads.1.0)

  pub bits_low : (n m : ℕ) (y z : Read) → a.term ≡ term.Pair Cat y z → n < a.inner.width → Equals t (a ∷ []) (term.Range Bits a.read n m) (term.Range Bits z n m)
  bits_low n m y z e high =
      range_equals Bits t a (term.Range Bits z n m) n m (operand_inner [] a [] (term.Pair Cat y z) e z (inr (inl refl)), tt) (λ type_at value h is one.
      low_numbers n m z (λ f v k.
      ap (λ q. q % 2 ^ a.inner.width) (cat_number y z f v k e) ∙ mod_low (v y).value.number a.inner.width (v z).value.number (cat_low y z f v k e))
      high type_at value h one)

  pub bits_high : (n m : ℕ) (y z : Read) (high low : ℕ) → a.term ≡ term.Pair Cat y z → a.inner.width ≤ m → high ≡ n - a.inner.width → low ≡ m - a.inner.width
      → Equals t (a ∷ []) (term.Range Bits a.read n m) (term.Range Bits y high low)
  bits_high n m y z high low e from is_high is_low =
      range_equals Bits t a (term.Range Bits y high low) n m (operand_inner [] a [] (term.Pair Cat y z) e y (inl refl), tt) (λ type_at value h is one.
      let range = is_range t a.ty n m one in
      let low_in = range.low in
      let x = number type_at value a in
      let count : high + 1 - low ≡ n + 1 - m = omega arith in
      let shift : a.inner.width + low ≡ m = omega arith in
      let top : (value y).value.number ≡ x / 2 ^ a.inner.width =
      sym (ap (λ q. q / 2 ^ a.inner.width) (cat_number y z type_at value h e)
      ∙ shr_high (value y).value.number a.inner.width (value z).value.number (cat_low y z type_at value h e)) in
      ap (λ j. (value y).value.number / 2 ^ low % 2 ^ j) count
      ∙ ap (λ q. q / 2 ^ low % 2 ^ (n + 1 - m)) top
      ∙ ap (λ q. q % 2 ^ (n + 1 - m)) (shr-shr x a.inner.width low ∙ ap (λ q. x / 2 ^ q) shift))

  pub shr_bits : (n high : ℕ) → a.ty.signed ≡ false → n < a.ty.width → high ≡ a.ty.width - 1 → Equals t (a ∷ []) (term.Integer Shr a.read n) (term.Range Bits a.read high n)
  shr_bits n high unsigned less e = integer_equals Shr t a (term.Range Bits a.read high n) n (inl refl, tt) (λ type_at value h is one.
      let x = number type_at value a in
      let wide : max (a.ty.width - n) 1 ≡ t.width = ap (λ (u : NumTy). u.width) one.is in
      let count : high + 1 - n ≡ t.width = omega arith in
      ap (λ j. x / 2 ^ n % 2 ^ j) count ∙ sym (ap (λ s. bits_of t.width (shifted_down (reading s a.ty.width x) n)) unsigned))

  pub tail_bits : (n high : ℕ) → n < a.ty.width → high ≡ a.ty.width - n - 1 → Equals t (a ∷ []) (term.Integer Tail a.read n) (term.Range Bits a.read high 0)
  tail_bits n high less e = integer_equals Tail t a (term.Range Bits a.read high 0) n (inl refl, tt) (λ type_at value h is one.
      let count : high + 1 - 0 ≡ a.ty.width - n = omega arith in
      ap (λ j. number type_at value a / 2 ^ 0 % 2 ^ j) count ∙ ap (λ x. x % 2 ^ (a.ty.width - n)) (div_none (number type_at value a)))

  pub head_bits : (n high low : ℕ) → n ≤ a.ty.width → high ≡ a.ty.width - 1 → low ≡ a.ty.width - n → 1 ≤ n
      → Equals t (a ∷ []) (term.Integer Head a.read n) (term.Range Bits a.read high low)
  head_bits n high low less is_high is_low some = integer_equals Head t a (term.Range Bits a.read high low) n (inl refl, tt) (λ type_at value h is one.
      let x = number type_at value a in
      let count : high + 1 - low ≡ n = omega arith in
      let sum : n + (a.ty.width - n) ≡ a.ty.width = omega arith in
      ap (λ j. x / 2 ^ low % 2 ^ j) count ∙ ap (λ l. x / 2 ^ l % 2 ^ n) is_low
      ∙ mod-eq_of_lt (shr_below x n (a.ty.width - n) (subst (λ w. x < 2 ^ w) (sym sum) (below type_at value a h))))

module _ (t : NumTy) (a b : Operand) where
  pub cat_first : a.ty.width ≡ 0 → Equals t (a ∷ b ∷ []) (term.Pair Cat a.read b.read) (term.Single AsUInt b.read)
  cat_first e = pair_equals Cat t a b (term.Single AsUInt b.read) (operand_read (a ∷ []) b [], tt) (λ type_at value x y is one.
      let low : number type_at value a < 2 ^ 0 = subst (λ w. number type_at value a < 2 ^ w) e (below type_at value a x) in
      let none : number type_at value a ≡ 0 = omega arith in
      let alone : number type_at value b ≡ 0 * 2 ^ b.ty.width + number type_at value b = omega arith in
      alone ∙ sym (ap (λ n. n * 2 ^ b.ty.width + number type_at value b) none))

  pub cat_second : b.ty.width ≡ 0 → Equals t (a ∷ b ∷ []) (term.Pair Cat a.read b.read) (term.Single AsUInt a.read)
  cat_second e = pair_equals Cat t a b (term.Single AsUInt a.read) (inl refl, tt) (λ type_at value x y is one.
      let low : number type_at value b < 2 ^ 0 = subst (λ w. number type_at value b < 2 ^ w) e (below type_at value b y) in
      once (number type_at value a) (number type_at value b) low ∙ sym (ap (λ w. number type_at value a * 2 ^ w + number type_at value b) e))
    where
      once : (n m : ℕ) → m < 2 ^ 0 → n ≡ n * 2 ^ 0 + m
      once n m h = omega arith

  pub cat_joined : (y : Read) (h k : ℕ) (z : Read) (g l : ℕ) → a.term ≡ term.Range Bits y h k → b.term ≡ term.Range Bits z g l → z ≡ y → k ≡ g + 1
      → Equals t (a ∷ b ∷ []) (term.Pair Cat a.read b.read) (term.Range Bits y h l)
  cat_joined y h k z g l e f same next = pair_equals Cat t a b (term.Range Bits y h l) (operand_inner [] a (b ∷ []) (term.Range Bits y h k) e y (inl refl), tt) (λ type_at value p q is one.
      let first = known_term type_at value a (term.Range Bits y h k) p e in
      let second = known_term type_at value b (term.Range Bits z g l) q f in
      let upper = has_one Bits (type_at y ∷ []) (h ∷ k ∷ []) a.ty first.has_type in
      let lower = has_one Bits (type_at z ∷ []) (g ∷ l ∷ []) b.ty second.has_type in
      let in_upper = (is_range a.ty (type_at y) h k upper).low in
      let in_lower = (is_range b.ty (type_at z) g l lower).low in
      let width : g + 1 - l ≡ b.ty.width = ap (λ (u : NumTy). u.width) lower.is in
      let x = (value y).value.number in
      let count : h + 1 - l ≡ h + 1 - k + b.ty.width = omega arith in
      let shift : l + b.ty.width ≡ k = omega arith in
      ap (λ j. x / 2 ^ l % 2 ^ j) count ∙ mod-pow-add (x / 2 ^ l) (h + 1 - k) b.ty.width
      ∙ ap (λ n. n % 2 ^ (h + 1 - k) * 2 ^ b.ty.width + x / 2 ^ l % 2 ^ b.ty.width) (shr-shr x l b.ty.width ∙ ap (λ n. x / 2 ^ n) shift)
      ∙ ap (λ n. n * 2 ^ b.ty.width + x / 2 ^ l % 2 ^ b.ty.width) (sym first.is)
      ∙ ap (λ n. number type_at value a * 2 ^ b.ty.width + n)
      (ap (λ j. x / 2 ^ l % 2 ^ j) (sym width) ∙ ap (λ (r : Read). (value r).value.number / 2 ^ l % 2 ^ (g + 1 - l)) (sym same) ∙ sym second.is))
