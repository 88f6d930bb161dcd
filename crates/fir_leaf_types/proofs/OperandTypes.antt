-- The type of an operation's result, from what its operands hold: it is what the sized type of the operation holds.
use Rattle.std.proofs.Common.{◌≡◌, ℕ, ◌≤◌, List, [], ◌∷◌, Bool, true, false, ◌==◌, if◌then◌else◌, length, map, Some, Ok, refl, sym, ap, ◌∙◌, subst, arith}
use Rattle.std.specs.Prelude.{slice_index}
use Rattle.std.proofs.lemmas.Bool.{eqb-true}
use Rattle.std.proofs.lemmas.List.{length-map}
use Rattle.fir_base.proofs.Tests.{both}
use Rattle.fir_bits.specs.declared.operators.PrimOp.{PrimOp}
use Rattle.fir_bits.specs.declared.operators.PrimOp.TheVariants.{AsAsyncReset}
use Rattle.fir_bits.specs.declared.operators.Form.{Form}
use Rattle.fir_bits.specs.declared.operators.Form.TheVariants.{Pair, Shift, Single, WithInteger, WithRange}
use Rattle.fir_bits.specs.declared.types.NumTy.{NumTy}
use Rattle.fir_bits.specs.Forms.{form_of, operands, integers, has_counts, has_kinds, takes, first_type, second_type}
use Rattle.fir_bits.specs.Types.{is_legal, signed_of}
use Rattle.fir_bits.specs.working.Types.{typed}
use Rattle.fir_bits.specs.Widths.{is_narrow, counted_width}
use Rattle.fir_bits.specs.Widths.{width_of as result_width}
use Rattle.fir_ast.specs.Types.{DataType, uint, sint, clock, reset, async_reset, bundle, vector}
use Rattle.fir_meaning.specs.OperationTypes.{operand_kind}
use Rattle.fir_meaning.specs.TypeKinds.{bare}
use Rattle.fir_meaning.specs.WidthExpressions.{Width, Widths, width_under}
use Rattle.fir_meaning.specs.SizedTypes.{Sized, unsigned, signed, clock_scalar, reset_scalar, async_scalar, scalar, sized_bundle, sized_vector, bare_type}
use Rattle.fir_meaning.specs.SizedOperations.{number_scalar, is_signed, width_in, first_sized, result_scalar, operation_width, sized_operation}
use Rattle.fir_meaning.proofs.SizedShapes.{operand_signed}
use Rattle.fir_meaning.specs.LeafTypes.{number}
use Rattle.fir_meaning.specs.HeldTypes.{scalar_type, held_types}

-- what may be an operand
abbrev IsOperand : DataType → Type 0
IsOperand (uint w) = Unit {0}
IsOperand (sint w) = Unit {0}
IsOperand reset = Unit {0}
IsOperand async_reset = Unit {0}
IsOperand t = ⊥

kind_operand : (resets : Bool) (t : DataType) (k : NumTy) → operand_kind resets t ≡ Some k → IsOperand (bare t)
kind_operand resets (uint w) k e = tt
kind_operand resets (sint w) k e = tt
kind_operand resets reset k e = tt
kind_operand resets async_reset k e = tt
kind_operand resets clock k e = absurd (cc)
kind_operand resets (bundle fs) k e = absurd (cc)
kind_operand resets (vector t n) k e = absurd (cc)

module _ (w : Widths) where
  -- a reset has one bit
  abbrev pub ResetIsOne : Sized → Type 0
  ResetIsOne (scalar reset_scalar e) = width_under e w ≡ 1
  ResetIsOne (scalar async_scalar e) = width_under e w ≡ 1
  ResetIsOne _ = Unit {0}

  -- an operand holds one number, of its kind
  pub record OperandHolds (s : Sized) (kind u : NumTy) : Type 0 where
    pub holds : held_types w s ≡ number u ∷ []
    pub sign : u.signed ≡ is_signed s
    pub width : u.width ≡ width_under (width_in s) w
    pub of_kind : u.signed ≡ kind.signed

  pub operand_holds : (resets : Bool) (s : Sized) (t : DataType) (kind : NumTy) → bare_type s ≡ bare t → operand_kind resets t ≡ Some kind → ResetIsOne s
      → (u : NumTy) × OperandHolds s kind u
  operand_holds resets s t kind e h one = by s one (subst IsOperand (sym e) (kind_operand resets t kind h)) (operand_signed resets s t kind e h)
    where
      by : (s : Sized) → ResetIsOne s → IsOperand (bare_type s) → is_signed s ≡ kind.signed → (u : NumTy) × OperandHolds s kind u
      by (scalar unsigned e) one is sign =
          (record { signed = false; width = width_under e w }, record { holds = refl; sign = refl; width = refl; of_kind = sign })
      by (scalar signed e) one is sign =
          (record { signed = true; width = width_under e w }, record { holds = refl; sign = refl; width = refl; of_kind = sign })
      by (scalar clock_scalar e) one is sign = absurd is
      by (scalar reset_scalar e) one is sign =
          (record { signed = false; width = 1 }, record { holds = refl; sign = refl; width = sym one; of_kind = sign })
      by (scalar async_scalar e) one is sign =
          (record { signed = false; width = 1 }, record { holds = refl; sign = refl; width = sym one; of_kind = sign })
      by (sized_bundle fs) one is sign = absurd is
      by (sized_vector v n) one is sign = absurd is

-- what a form takes hangs on how many operands there are, and on their signs
abbrev pub signs : List NumTy → List Bool
signs = map (λ (u : NumTy). u.signed)

first_sign : (us ks : List NumTy) → signs us ≡ signs ks → (first_type us).signed ≡ (first_type ks).signed
first_sign [] [] e = refl
first_sign [] (k ∷ ks) e = absurd (cc)
first_sign (u ∷ us) [] e = absurd (cc)
first_sign (u ∷ us) (k ∷ ks) e = cc

second_sign : (us ks : List NumTy) → signs us ≡ signs ks → (second_type us).signed ≡ (second_type ks).signed
second_sign [] [] e = refl
second_sign [] (k ∷ ks) e = absurd (cc)
second_sign (u ∷ us) [] e = absurd (cc)
second_sign (u ∷ us) (k ∷ ks) e = let rest : signs us ≡ signs ks = cc in first_sign us ks rest

same_kinds : (form : Form) (us ks : List NumTy) → signs us ≡ signs ks → has_kinds form us ≡ has_kinds form ks
same_kinds Pair us ks e = rw (first_sign us ks e, second_sign us ks e) refl
same_kinds Shift us ks e = rw (second_sign us ks e) refl
same_kinds Single us ks e = refl
same_kinds WithInteger us ks e = refl
same_kinds WithRange us ks e = refl

same_length : (us ks : List NumTy) → signs us ≡ signs ks → length us ≡ length ks
same_length us ks e = sym (length-map us (λ (u : NumTy). u.signed)) ∙ ap length e ∙ length-map ks (λ (u : NumTy). u.signed)

taken_by_signs : (form : Form) (us ks : List NumTy) (is : List ℕ) → signs us ≡ signs ks → takes form us is ≡ takes form ks is
taken_by_signs form us ks is e = rw (same_length us ks e, same_kinds form us ks e) refl

-- a form takes one operand, or two and no integers
record Counts (form : Form) (n m : ℕ) : Type 0 where
  some : 1 ≤ n
  few : n ≤ 2
  two : n ≡ 2 → m ≡ 0

counts : (form : Form) (us : List NumTy) (is : List ℕ) → takes form us is ≡ true → Counts form (length us) (length is)
counts form us is h =
    let first = both (has_counts form (length us) (length is)) (has_kinds form us) h in
    let second = both (length us == operands form) (length is == integers form) first.0 in
    by form (eqb-true (length us) (operands form) second.0) (eqb-true (length is) (integers form) second.1)
  where
    by : (form : Form) → length us ≡ operands form → length is ≡ integers form → Counts form (length us) (length is)
    by Pair e f = record { some = omega (arith, e); few = omega (arith, e); two = λ k. f }
    by Shift e f = record { some = omega (arith, e); few = omega (arith, e); two = λ k. f }
    by Single e f = record { some = omega (arith, e); few = omega (arith, e); two = λ k. f }
    by WithInteger e f = record { some = omega (arith, e); few = omega (arith, e); two = λ k. absurd (omega (arith, e, k)) }
    by WithRange e f = record { some = omega (arith, e); few = omega (arith, e); two = λ k. absurd (omega (arith, e, k)) }

no_integers : (is : List ℕ) → length is ≡ 0 → is ≡ []
no_integers [] e = refl
no_integers (i ∷ is) e = absurd (omega (arith, e))

counted_narrow : (b : Bool) (x : ℕ) → (if b then x else 129) ≤ 128 → (b ≡ true) × ((if b then x else 129) ≡ x)
counted_narrow true x h = (refl, refl)
counted_narrow false x h = absurd (omega (arith, h))

type_is : (op : PrimOp) (us : List NumTy) (is : List ℕ) → takes (form_of op) us is ≡ true
    → is_narrow op (first_type us).signed (first_type us).width (second_type us).width (slice_index is 0) (slice_index is 1) ≡ true
    → is_legal op (first_type us).width (slice_index is 0) (slice_index is 1) ≡ true
    → typed op us is
    ≡ Ok
    (record {
      signed = signed_of op (first_type us).signed;
      width = result_width op (first_type us).signed (first_type us).width (second_type us).width (slice_index is 0) (slice_index is 1);
    })
type_is op us is h narrow legal = rw (h, narrow, legal) refl

module _ (w : Widths) where
  pub number_holds : (is : Bool) (e : Width) → scalar_type w (number_scalar is) e ≡ number (record { signed = is; width = width_under e w })
  number_holds true e = refl
  number_holds false e = refl

  pub number_resets : (is : Bool) (e : Width) → ResetIsOne w (scalar (number_scalar is) e)
  number_resets true e = tt
  number_resets false e = tt

  result_holds : (op : PrimOp) (is : Bool) (e : Width) (a b n m : ℕ) → width_under e w ≡ result_width op is a b n m
      → scalar_type w (result_scalar op is) e ≡ number (record { signed = signed_of op is; width = result_width op is a b n m })
  result_holds AsAsyncReset is e a b n m h = refl
  result_holds op is e a b n m h =
      number_holds (signed_of op is) e ∙ ap (λ x. number (record { signed = signed_of op is; width = x })) h

  result_resets : (op : PrimOp) (is : Bool) (e : Width) (a b n m : ℕ) → width_under e w ≡ result_width op is a b n m
      → ResetIsOne w (scalar (result_scalar op is) e)
  result_resets AsAsyncReset is e a b n m h = h
  result_resets op is e a b n m h = number_resets (signed_of op is) e

  -- operands beside what they hold
  abbrev pub OperandsHold : List Sized → List NumTy → Type 0
  OperandsHold [] [] = Unit {0}
  OperandsHold (s ∷ ss) (u ∷ us) = (u.signed ≡ is_signed s) × (u.width ≡ width_under (width_in s) w) × OperandsHold ss us
  OperandsHold _ _ = ⊥

  pub record OperationHolds (op : PrimOp) (ss : List Sized) (is : List ℕ) (us : List NumTy) : Type 0 where
    pub result : NumTy
    pub typed : typed op us is ≡ Ok result
    pub holds : held_types w (sized_operation op ss is) ≡ number result ∷ []
    pub resets : ResetIsOne w (sized_operation op ss is)

  -- by what the sized type of the operation is, with the width of the second operand
  holds_by : (op : PrimOp) (ss : List Sized) (is : List ℕ) (us : List NumTy) → (first_type us).signed ≡ is_signed (first_sized ss)
      → takes (form_of op) us is ≡ true
      → width_under (operation_width op ss is) w
      ≡ counted_width op (first_type us).signed (first_type us).width (second_type us).width (slice_index is 0) (slice_index is 1)
      → width_under (operation_width op ss is) w ≤ 128 → is_legal op (first_type us).width (slice_index is 0) (slice_index is 1) ≡ true
      → OperationHolds op ss is us
  holds_by op ss is us sign taken counted within legal =
      let a = first_type us in
      let b = second_type us in
      let n = slice_index is 0 in
      let m = slice_index is 1 in
      let whole = result_width op a.signed a.width b.width n m in
      let test = is_narrow op a.signed a.width b.width n m in
      let bound : (if test then whole else 129) ≤ 128 = subst (λ x. x ≤ 128) counted within in
      let narrow = counted_narrow test whole bound in
      let wide : width_under (operation_width op ss is) w ≡ whole = counted ∙ narrow.1 in
      record {
        result = record { signed = signed_of op a.signed; width = whole };
        typed = type_is op us is taken narrow.0 legal;
        holds =
            ap (λ x. scalar_type w (result_scalar op x) (operation_width op ss is) ∷ []) (sym sign)
            ∙ ap (λ x. x ∷ []) (result_holds op a.signed (operation_width op ss is) a.width b.width n m wide);
        resets =
            subst (λ x. ResetIsOne w (scalar (result_scalar op x) (operation_width op ss is))) sign
            (result_resets op a.signed (operation_width op ss is) a.width b.width n m wide);
      }

  pub operation_holds : (op : PrimOp) (ss : List Sized) (is : List ℕ) (us kinds : List NumTy) → OperandsHold ss us → signs us ≡ signs kinds
      → takes (form_of op) kinds is ≡ true → width_under (operation_width op ss is) w ≤ 128
      → is_legal op (width_under (width_in (first_sized ss)) w) (slice_index is 0) (slice_index is 1) ≡ true → OperationHolds op ss is us
  operation_holds op [] is [] kinds h same taken within legal =
      let few = counts (form_of op) [] is (taken_by_signs (form_of op) [] kinds is same ∙ taken) in
      absurd (omega (arith, few.some))
  operation_holds op [] is (u ∷ us) kinds h same taken within legal = absurd h
  operation_holds op (s ∷ ss) is [] kinds h same taken within legal = absurd h
  operation_holds op (s ∷ []) is (u ∷ []) kinds h same taken within legal =
      holds_by op (s ∷ []) is (u ∷ []) h.0 (taken_by_signs (form_of op) (u ∷ []) kinds is same ∙ taken)
      (rw (h.0, h.1) refl) within (rw h.1 legal)
  operation_holds op (s ∷ []) is (u ∷ v ∷ us) kinds h same taken within legal = absurd h.2
  operation_holds op (s ∷ t ∷ ss) is (u ∷ []) kinds h same taken within legal = absurd h.2
  operation_holds op (s ∷ t ∷ []) is (u ∷ v ∷ []) kinds h same taken within legal =
      let mine = taken_by_signs (form_of op) (u ∷ v ∷ []) kinds is same ∙ taken in
      let none : is ≡ [] = no_integers is ((counts (form_of op) (u ∷ v ∷ []) is mine).two refl) in
      holds_by op (s ∷ t ∷ []) is (u ∷ v ∷ []) h.0 mine (rw (none, h.0, h.1, h.2.1) refl) within (rw h.1 legal)
  operation_holds op (s ∷ t ∷ []) is (u ∷ v ∷ x ∷ us) kinds h same taken within legal = absurd h.2.2
  operation_holds op (s ∷ t ∷ r ∷ ss) is (u ∷ v ∷ []) kinds h same taken within legal = absurd h.2.2
  operation_holds op (s ∷ t ∷ r ∷ ss) is (u ∷ v ∷ x ∷ us) kinds h same taken within legal =
      let few = counts (form_of op) (u ∷ v ∷ x ∷ us) is (taken_by_signs (form_of op) (u ∷ v ∷ x ∷ us) kinds is same ∙ taken) in
      absurd (omega (arith, few.few))
