-- What the right side of an operation with one net means.
-- It is sound, and has the value of the operation on the numbers that the operands hold.
use Rattle.std.proofs.Common.{◌≡◌, ℕ, ◌+◌, ◌-◌, ◌*◌, ◌/◌, ◌%◌, ◌^◌, ◌<◌, ◌≤◌, max, Bool, true, false, ◌⊎◌, ◌&&◌, not, if◌then◌else◌, List, ◌++◌, refl, sym, ◌∙◌, inl, inr, arith}
use Rattle.std.specs.Prelude.{Some, nat_eq, nat_le, nat_lt, IsTrue}
use Rattle.std.proofs.lemmas.Bool.{cond_both, and_cases, ltb-true, ltb-false, leb-true, and_parts, not-true, not-false, eqb-true, eqb-false}
use Rattle.std.proofs.lemmas.Nat.{pow_pos}
use Rattle.fir_base.specs.Ticks.{Env}
use Rattle.fir_bits.specs.Values.{IsBitVector}
use Rattle.fir_bits.specs.Operators.{operation_value}
use Rattle.fir_bits.specs.Forms.{form_of}
use Rattle.fir_bits.specs.Widths.{width_of}
use Rattle.fir_bits.specs.Types.{is_legal}
use Rattle.fir_bits.specs.declared.operators.Form.{Form}
use Rattle.fir_bits.specs.declared.operators.Form.TheVariants as form
use Rattle.fir_bits.specs.declared.operators.PrimOp.{PrimOp}
use Rattle.fir_bits.specs.declared.operators.PrimOp.TheVariants as op
use Rattle.fir_bits.specs.declared.values.Num.{Num}
use Rattle.fir_net.specs.working.Values.{at_width}
use Rattle.ver_ast.specs.declared.tree.Rhs.{Rhs}
use Rattle.ver_ast.specs.declared.tree.Rhs.TheVariants as rhs
use Rattle.ver_ast.specs.declared.tree.UnaryOp.TheVariants as unary
use Rattle.ver_ast.specs.declared.tree.BinaryOp.TheVariants as binary
use Rattle.ver_ast.specs.Atoms.{constant}
use Rattle.ver_ast.specs.Nets.{SizedNet}
use Rattle.ver_ast.specs.SideValues.{binary_value}
use Rattle.ver_ast.specs.SoundSides as sides
use Rattle.ver_ast.specs.SoundSides.{IsSoundSide, KeepsRule, KeepsUnary, binary_rule, signed_rule}
use Rattle.ver_build.specs.declared.held.Held.{Held}
use Rattle.ver_build.specs.working.Operands.{zeros, parts, side_by_side, atom_at, field, shifted, amount}
use Rattle.ver_build.specs.working.Texts.{joined, copied as copied_rhs, computed, compared_width, compared, reduced, shifted_up, shifted_down as down, head, one_rhs}
use Rattle.ver_build.proofs.Standing.{Stands, FitsSource}
use Rattle.ver_build.proofs.Fitted.{held_as, holds_itself, holds_vector}
use Rattle.ver_build.proofs.OperandAtoms.{Gives, AreBits, both_bits, zeros_bits, side_gives, constant_gives, parts_bits, atom_gives, amount_gives}
use Rattle.ver_build.proofs.FieldAtoms.{field_bits}
use Rattle.ver_build.proofs.Choices.{if_equal}
use Rattle.ver_build.proofs.RightSides.{between_value, Means, atom_side, unary_side, binary_side, shift_side, between_sound, between_is}
use Rattle.ver_build.proofs.OperatorValues.{IsOfKind, division, order, equality, one_operand, copied, is_add, is_sub, is_mul, is_lt, is_leq, is_gt, is_geq, is_eq, is_neq, is_and, is_or, is_xor, is_not, is_andr, is_orr, is_xorr, is_pad, is_cvt, is_tail, is_as_uint, is_as_sint, is_as_async_reset, is_div, is_rem, binary_operator, signed_operator, unary_operator, none_value, arithmetic_value, bitwise_value, order_value, equality_value, negative_value, unary_operation_value, unary_of_none, copied_value, at_width-unsigned, operator_value, shifted_value, dshl_value, dshr_value, shl_value, shr_bits, shr_sign, shr_nothing, head_value}

-- operands of one signedness, or a second one that is unsigned
abbrev pub HasKinds : Form → Bool → Bool → Type 0
HasKinds form.Pair s t = s ≡ t
HasKinds form.Shift s t = t ≡ false
HasKinds _ s t = Unit {0}

order_between : (o : PrimOp) → IsOfKind o order → (s : Bool) (r w x y : ℕ)
    → operator_value s o w x y ≡ between_value s (signed_operator o) (binary_operator o) r w x y
order_between o h true r w x y = refl
order_between o is_lt false r w x y = refl
order_between o is_leq false r w x y = refl
order_between o is_gt false r w x y = refl
order_between o is_geq false r w x y = refl

module _ (nets : List SizedNet) (env : Env) (a b : Held) (is_a : Stands nets a) (is_b : Stands nets b) (below_a : FitsSource env a.source)
    (below_b : FitsSource env b.source) (n m : ℕ) where
  abbrev A : Num
  A = held_as env a

  abbrev B : Num
  B = held_as env b

  vector_a : IsBitVector A.value
  vector_a = holds_vector nets env a A (holds_itself nets env a is_a below_a)

  vector_b : IsBitVector B.value
  vector_b = holds_vector nets env b B (holds_itself nets env b is_b below_b)

  at_a : (w : ℕ) → 1 ≤ w → w ≤ 128 → Gives nets env w (at_width A w) (atom_at w a)
  at_a w some narrow = atom_gives nets env w a A (holds_itself nets env a is_a below_a) some narrow

  at_b : (w : ℕ) → 1 ≤ w → w ≤ 128 → Gives nets env w (at_width B w) (atom_at w b)
  at_b w some narrow = atom_gives nets env w b B (holds_itself nets env b is_b below_b) some narrow

  parts_a : AreBits nets env a.width A.value.number (parts a)
  parts_a = parts_bits nets env a is_a below_a

  -- a right side that has the operation's value
  abbrev IsFor : PrimOp → ℕ → Rhs → Type 0
  IsFor o r side = Means nets env r (operation_value o r A B n m) side

  computed_means : (o : PrimOp) (r : ℕ) → binary_rule (binary_operator o) ≡ sides.arithmetic → 1 ≤ r → r ≤ 128
      → binary_value (binary_operator o) r (at_width A r) (at_width B r) ≡ Some (operation_value o r A B n m)
      → IsFor o r (computed (binary_operator o) r a b)
  computed_means o r rule some narrow value =
      binary_side nets env r r r _ _ (atom_at r a) (atom_at r b) (at_a r some narrow) (at_b r some narrow) _ (binary_operator o)
      (rw rule (refl, refl)) value

  -- comparisons
  module _ (same : a.signed ≡ b.signed) where
    abbrev w : ℕ
    w = compared_width a b

    w_narrow : w ≤ 128
    w_narrow = let narrow_a = is_a.narrow in let narrow_b = is_b.narrow in omega arith

    equality_means : (o : PrimOp) → IsOfKind o equality → binary_rule (binary_operator o) ≡ sides.comparison
        → IsFor o 1 (computed (binary_operator o) w a b)
    equality_means o h rule =
        binary_side nets env 1 w w _ _ (atom_at w a) (atom_at w b) (at_a w (omega arith) w_narrow) (at_b w (omega arith) w_narrow) _
        (binary_operator o)
        (rw rule (refl, refl)) (equality_value A B vector_a vector_b 1 n m w (omega arith) (omega arith) (sym same) o h 1)

    order_means : (o : PrimOp) → IsOfKind o order → binary_rule (binary_operator o) ≡ sides.comparison
        → signed_rule (signed_operator o) ≡ sides.comparison
        → IsFor o 1 (compared (signed_operator o) (binary_operator o) a b)
    order_means o h plain rule =
        let s = signed_operator o in
        let p = binary_operator o in
        let one = at_a w (omega arith) w_narrow in
        let other = at_b w (omega arith) w_narrow in
        record {
          sound = between_sound nets env s p 1 w _ _ (atom_at w a) (atom_at w b) one other (rw rule (refl, refl)) (rw plain (refl, refl)) a.signed;
          value =
              between_is nets env s p 1 w _ _ (atom_at w a) (atom_at w b) one other a.signed ∙ sym (order_between o h a.signed 1 w _ _)
              ∙ order_value A B vector_a vector_b 1 n m w (omega arith) (omega arith) (sym same) o h;
        }

  copied_means : (o : PrimOp) → IsOfKind o copied → IsTrue (is_legal o a.width n m)
      → (let r = width_of o a.signed a.width b.width n m in 1 ≤ r → r ≤ 128 → IsFor o r (copied_rhs r a))
  copied_means o h legal some narrow =
      let r = width_of o a.signed a.width b.width n m in
      let value : operation_value o r A B n m ≡ at_width A r = copied_value A B vector_a n m o h legal in
      rw value (atom_side nets env r (at_width A r) (atom_at r a) (at_a r some narrow))

  reduced_means : (o : PrimOp) → IsOfKind o one_operand → ((u : ℕ) → KeepsUnary (unary_operator o) 1 u) → none_value o < 2
      → IsFor o 1 (reduced (unary_operator o) (none_value o) a)
  reduced_means o h rule small =
      if_equal (IsFor o 1) a.width 0 (rhs.Atom (constant 1 (none_value o))) (rhs.Unary (unary_operator o) (atom_at a.width a))
      (λ e. let value : none_value o ≡ operation_value o 1 A B n m = unary_of_none A B vector_a n m o h 1 e in
      atom_side nets env 1 (operation_value o 1 A B n m) (constant 1 (none_value o))
      (rw (← value) (constant_gives nets env 1 (none_value o) (omega arith) (omega arith) small)))
      (λ f. unary_side nets env 1 a.width _ _ (unary_operator o) (atom_at a.width a) (rule a.width) (at_a a.width (omega arith) is_a.narrow)
      (unary_operation_value A B vector_a n m o h 1))

  not_means : 1 ≤ a.width → IsFor op.Not a.width (rhs.Unary unary.Not (atom_at a.width a))
  not_means some =
      unary_side nets env a.width a.width _ _ unary.Not (atom_at a.width a) refl (at_a a.width some is_a.narrow)
      (unary_operation_value A B vector_a n m op.Not is_not a.width)

  negative_means : (r : ℕ) → 1 ≤ r → r ≤ 128 → IsFor op.Neg r (rhs.Binary (constant r 0) binary.Sub (atom_at r a))
  negative_means r some narrow =
      binary_side nets env r r r _ _ (constant r 0) (atom_at r a) (constant_gives nets env r 0 some narrow (pow_pos r)) (at_a r some narrow) _
      binary.Sub
      (refl, refl) (negative_value A B vector_a n m r)

  cat_means : 1 ≤ a.width + b.width → a.width + b.width ≤ 128 → IsFor op.Cat (a.width + b.width) (joined (parts a ++ parts b))
  cat_means some narrow =
      atom_side nets env (a.width + b.width) _ (side_by_side (parts a ++ parts b))
      (side_gives nets env (a.width + b.width) _ (parts a ++ parts b) some narrow
      (both_bits nets env a.width b.width A.value.number B.value.number (parts a) (parts b) parts_a (parts_bits nets env b is_b below_b)))

  -- some bits of the first operand
  field_gives : (r hi lo : ℕ) → lo ≤ hi → hi < a.width → r ≡ hi + 1 - lo
      → Gives nets env r (A.value.number / 2 ^ lo % 2 ^ r) (side_by_side (field r hi lo a))
  field_gives r hi lo low high count =
      let narrow = is_a.narrow in
      side_gives nets env r _ (field r hi lo a) (omega arith) (omega arith) (field_bits nets env r hi lo a is_a below_a low high count)

  bits_means : m ≤ n → n < a.width → IsFor op.Bits (n + 1 - m) (joined (field (n + 1 - m) n m a))
  bits_means low high = atom_side nets env (n + 1 - m) _ (side_by_side (field (n + 1 - m) n m a)) (field_gives (n + 1 - m) n m low high refl)

  head_means : 1 ≤ n → n ≤ a.width → IsFor op.Head n (head n n a)
  head_means some within =
      let value : operation_value op.Head n A B n m ≡ A.value.number / 2 ^ (a.width - n) % 2 ^ n = head_value A B vector_a n m within in
      rw value (atom_side nets env n _ (side_by_side (field n (a.width - 1) (a.width - n) a))
      (field_gives n (a.width - 1) (a.width - n) (omega arith) (omega arith) (omega arith)))

  shl_means : 1 ≤ a.width + n → a.width + n ≤ 128 → IsFor op.Shl (a.width + n) (shifted_up (a.width + n) a)
  shl_means some narrow =
      let r = a.width + n in
      let more : r - a.width ≡ n = omega arith in
      let value : operation_value op.Shl r A B n m ≡ A.value.number * 2 ^ n + 0 = shl_value A B vector_a n m ∙ omega arith in
      rw (value, more)
      (atom_side nets env r _ (side_by_side (parts a ++ zeros n))
      (side_gives nets env r _ (parts a ++ zeros n) some narrow
      (both_bits nets env a.width n A.value.number 0 (parts a) (zeros n) parts_a (zeros_bits nets env n (omega arith)))))

  -- what a shift down by n leaves
  shifted_gives : (r : ℕ) → r ≡ max (a.width - n) 1 → Gives nets env r (operation_value op.Shr r A B n m) (side_by_side (shifted r n a))
  shifted_gives r count =
      cond_both (nat_lt n a.width) (field r (a.width - 1) n a)
      (if a.signed && not (nat_eq a.width 0) then field 1 (a.width - 1) (a.width - 1) a else zeros r)
      (λ atoms. Gives nets env r (operation_value op.Shr r A B n m) (side_by_side atoms))
      (λ t. left (ltb-true n a.width t)) (λ f. none (ltb-false n a.width f))
    where
      nothing : (a.signed && not (nat_eq a.width 0)) ≡ false → (a.signed ≡ false) ⊎ (a.width ≡ 0)
      nothing f = elim (and_cases a.signed (not (nat_eq a.width 0)) f)
          [ inl e ↦ inl e | inr e ↦ inr (eqb-true a.width 0 (not-false (nat_eq a.width 0) e)) ]

      left : n < a.width → Gives nets env r (operation_value op.Shr r A B n m) (side_by_side (field r (a.width - 1) n a))
      left h =
          let value : operation_value op.Shr r A B n m ≡ A.value.number / 2 ^ n % 2 ^ r = shr_bits A B vector_a n m r (omega arith) in
          rw value (field_gives r (a.width - 1) n (omega arith) (omega arith) (omega arith))

      none : a.width ≤ n → Gives nets env r (operation_value op.Shr r A B n m)
          (side_by_side (if a.signed && not (nat_eq a.width 0) then field 1 (a.width - 1) (a.width - 1) a else zeros r))
      none h =
          let one : r ≡ 1 = omega arith in
          rw one
          (cond_both (a.signed && not (nat_eq a.width 0)) (field 1 (a.width - 1) (a.width - 1) a) (zeros 1)
          (λ atoms. Gives nets env 1 (operation_value op.Shr 1 A B n m) (side_by_side atoms))
          (λ t.
          let both = and_parts a.signed (not (nat_eq a.width 0)) t in
          let apart = eqb-false a.width 0 (not-true (nat_eq a.width 0) both.1) in
          let some : 0 < a.width = omega arith in
          let value : operation_value op.Shr 1 A B n m ≡ A.value.number / 2 ^ (a.width - 1) % 2 ^ 1 = shr_sign A B vector_a n m both.0 some h in
          rw value (field_gives 1 (a.width - 1) (a.width - 1) (omega arith) (omega arith) (omega arith)))
          (λ f.
          let value : operation_value op.Shr 1 A B n m ≡ 0 = shr_nothing A B vector_a n m (nothing f) h in
          rw value (side_gives nets env 1 0 (zeros 1) (omega arith) (omega arith) (zeros_bits nets env 1 (omega arith)))))

  -- shifts by the second operand
  amount_is : b.signed ≡ false → Gives nets env (max 1 b.width) B.value.number (amount b)
  amount_is plain =
      let value : at_width B (max 1 b.width) ≡ B.value.number = at_width-unsigned B (max 1 b.width) plain (omega arith) in
      rw value at (amount_gives nets env b B (holds_itself nets env b is_b below_b))

  dshl_means : b.signed ≡ false → (r : ℕ) → 1 ≤ r → r ≤ 128 → IsFor op.Dshl r (rhs.Binary (atom_at r a) binary.Shl (amount b))
  dshl_means plain r some narrow =
      binary_side nets env r r (max 1 b.width) _ _ (atom_at r a) (amount b) (at_a r some narrow) (amount_is plain) _ binary.Shl refl
      (dshl_value A B vector_a n m r)

  dshr_means : b.signed ≡ false → 1 ≤ a.width → IsFor op.Dshr a.width (down a.width a b)
  dshr_means plain some = by a.signed (dshr_value A B vector_a n m)
    where
      by : (s : Bool) → shifted_value s a.width (at_width A a.width) B.value.number ≡ Some (operation_value op.Dshr a.width A B n m)
          → IsFor op.Dshr a.width (if s then rhs.SignedShift (atom_at a.width a) (amount b) else rhs.Binary (atom_at a.width a) binary.Shr (amount b))
      by true value = shift_side nets env a.width a.width (max 1 b.width) _ _ (atom_at a.width a) (amount b) (at_a a.width some is_a.narrow)
          (amount_is plain) _ refl value
      by false value = binary_side nets env a.width a.width (max 1 b.width) _ _ (atom_at a.width a) (amount b) (at_a a.width some is_a.narrow)
          (amount_is plain) _ binary.Shr refl value

  -- the operations with one net
  pub one_means : (o : PrimOp) → (IsOfKind o division → ⊥) → HasKinds (form_of o) a.signed b.signed → IsTrue (is_legal o a.width n m)
      → (let r = width_of o a.signed a.width b.width n m in 1 ≤ r → r ≤ 128 → IsFor o r (one_rhs o r a b n m))
  one_means op.Add h k l s t = computed_means op.Add _ refl s t (arithmetic_value A B vector_a vector_b _ n m op.Add is_add)
  one_means op.Sub h k l s t = computed_means op.Sub _ refl s t (arithmetic_value A B vector_a vector_b _ n m op.Sub is_sub)
  one_means op.Mul h k l s t = computed_means op.Mul _ refl s t (arithmetic_value A B vector_a vector_b _ n m op.Mul is_mul)
  one_means op.Div h k l s t = absurd (h is_div)
  one_means op.Rem h k l s t = absurd (h is_rem)
  one_means op.Lt h k l s t = order_means k op.Lt is_lt refl refl
  one_means op.Leq h k l s t = order_means k op.Leq is_leq refl refl
  one_means op.Gt h k l s t = order_means k op.Gt is_gt refl refl
  one_means op.Geq h k l s t = order_means k op.Geq is_geq refl refl
  one_means op.Eq h k l s t = equality_means k op.Eq is_eq refl
  one_means op.Neq h k l s t = equality_means k op.Neq is_neq refl
  one_means op.Pad h k l s t = copied_means op.Pad is_pad l s t
  one_means op.Shl h k l s t = shl_means s t
  one_means op.Shr h k l s t = atom_side nets env _ _ _ (shifted_gives _ refl)
  one_means op.Dshl h k l s t = dshl_means k _ s t
  one_means op.Dshr h k l s t = dshr_means k s
  one_means op.Cvt h k l s t = copied_means op.Cvt is_cvt l s t
  one_means op.Neg h k l s t = negative_means _ s t
  one_means op.Not h k l s t = not_means s
  one_means op.And h k l s t = computed_means op.And _ refl s t (bitwise_value A B vector_a vector_b _ n m op.And is_and (omega arith) (omega arith))
  one_means op.Or h k l s t = computed_means op.Or _ refl s t (bitwise_value A B vector_a vector_b _ n m op.Or is_or (omega arith) (omega arith))
  one_means op.Xor h k l s t = computed_means op.Xor _ refl s t (bitwise_value A B vector_a vector_b _ n m op.Xor is_xor (omega arith) (omega arith))
  one_means op.Andr h k l s t = reduced_means op.Andr is_andr (λ u. refl) (omega arith)
  one_means op.Orr h k l s t = reduced_means op.Orr is_orr (λ u. refl) (omega arith)
  one_means op.Xorr h k l s t = reduced_means op.Xorr is_xorr (λ u. refl) (omega arith)
  one_means op.Cat h k l s t = cat_means s t
  one_means op.Bits h k l s t = let both = and_parts (nat_le m n) (nat_lt n a.width) l in bits_means (leb-true m n both.0) (ltb-true n a.width both.1)
  one_means op.Head h k l s t = head_means s (leb-true n a.width l)
  one_means op.Tail h k l s t = copied_means op.Tail is_tail l s t
  one_means op.AsUInt h k l s t = copied_means op.AsUInt is_as_uint l s t
  one_means op.AsSInt h k l s t = copied_means op.AsSInt is_as_sint l s t
  one_means op.AsAsyncReset h k l s t = copied_means op.AsAsyncReset is_as_async_reset l s t
