-- The operands of an operation are scalars, and their widths have numbers.
use Rattle.std.proofs.Common.{◌≡◌, ℕ, List, [], ◌∷◌, length, Bool, true, Some, refl, sym, ap, ◌∙◌}
use Rattle.fir_base.proofs.Tests.{both}
use Rattle.fir_bits.specs.declared.operators.PrimOp.{PrimOp}
use Rattle.fir_bits.specs.declared.operators.Form.{Form}
use Rattle.fir_bits.specs.declared.operators.Form.TheVariants.{Pair, Shift, Single, WithInteger, WithRange}
use Rattle.fir_bits.specs.declared.types.NumTy.{NumTy}
use Rattle.fir_bits.specs.Forms.{form_of, has_counts, has_kinds}
use Rattle.fir_ast.specs.declared.place.Place.{Place}
use Rattle.fir_ast.specs.Expressions.{Expressions, no_expressions, expression, operation}
use Rattle.fir_ast.specs.Types.{DataType, uint, sint, clock, reset, async_reset, bundle, vector}
use Rattle.fir_meaning.specs.OperationTypes.{is_conversion, operand_kinds}
use Rattle.fir_meaning.specs.TypeKinds.{bare}
use Rattle.fir_meaning.specs.TypedScopes.{TypedScope}
use Rattle.fir_meaning.specs.SizedOperations.{first_sized, is_signed, width_in}
use Rattle.fir_meaning.specs.SizedScopes.{SizedScope, sized_type, sized_types}
use Rattle.fir_meaning.specs.SizedTypes.{unsigned, signed, clock_scalar, reset_scalar, async_scalar, Sized, scalar, sized_bundle, sized_vector, bare_type}
use Rattle.fir_meaning.specs.working.WellTyped.{HasType, HaveTypes}
use Rattle.fir_meaning.specs.WidthExpressions.{Width}
use Rattle.fir_types.specs.declared.sort.Sort.TheVariants as sort
use Rattle.fir_types.specs.working.Seen.{found_type}
use Rattle.fir_types.specs.working.Sorts.{same_sort, sort_of}
use Rattle.fir_width.specs.declared.side.Side.{Side}
use Rattle.fir_width.specs.working.FlatWidths.{flat}
use Rattle.fir_width.specs.working.StandingWidths.{Has, Stands}
use Rattle.fir_infer_widths.specs.working.Operands.{HaveWidths}
use Rattle.fir_infer_widths.specs.working.Scenes.{AllStand}
use Rattle.fir_width.specs.working.Sides.{IsSide}
use Rattle.fir_infer_widths.specs.working.Walks.{AreSides}
use Rattle.fir_width.proofs.StandingWidths.{stands_head}
use Rattle.fir_infer_widths.proofs.TypedShapes.{IsScalar, kind_scalar, kinds_joined, typed_shape}

-- an SInt, by the sort of the type
abbrev signed_sort : DataType → Bool
signed_sort t = same_sort (sort_of t) sort.SInt

shape_sign : (s : Sized) → is_signed s ≡ signed_sort (bare_type s)
shape_sign (scalar unsigned w) = refl
shape_sign (scalar signed w) = refl
shape_sign (scalar clock_scalar w) = refl
shape_sign (scalar reset_scalar w) = refl
shape_sign (scalar async_scalar w) = refl
shape_sign (sized_bundle fs) = refl
shape_sign (sized_vector t n) = refl

bare_sign : (t : DataType) → signed_sort (bare t) ≡ signed_sort t
bare_sign (uint w) = refl
bare_sign (sint w) = refl
bare_sign clock = refl
bare_sign reset = refl
bare_sign async_reset = refl
bare_sign (bundle fs) = refl
bare_sign (vector t n) = refl

pub sign_of_side : (s : Sized) (t : DataType) → bare_type s ≡ bare t → is_signed s ≡ same_sort (sort_of t) sort.SInt
sign_of_side s t e = shape_sign s ∙ (ap signed_sort e ∙ bare_sign t)

-- the width of a scalar stands under the first number
scalar_has : (meant : List Width) (first : ℕ) (s : Sized) → IsScalar s → Stands meant first (flat s) → Has meant first (width_in s)
scalar_has meant first s is h = rw is.is (stands_head meant first is.width [] (rw is.is at h))

pub side_has : (ts : List DataType) (meant : List Width) (side : Side) (s : Sized) → IsSide ts meant side s → IsScalar s → Has meant side.first (width_in s)
side_has ts meant side s h is = scalar_has meant side.first s is h.stands

-- an operation has an operand
has_operand : (form : Form) (kinds : List NumTy) (n : ℕ) → has_counts form (length kinds) n ≡ true → kinds ≡ [] → ⊥
has_operand Pair [] n h e = cc
has_operand Shift [] n h e = cc
has_operand Single [] n h e = cc
has_operand WithInteger [] n h e = cc
has_operand WithRange [] n h e = cc
has_operand form (k ∷ kinds) n h e = cc

module _ (meant : List Width) (firsts : List ℕ) (typed : TypedScope) (sized : SizedScope) (stand : AllStand meant firsts typed sized) (ts : List DataType) where
  operands_have : (resets : Bool) (es : Expressions) (us : List DataType) (kinds : List NumTy) (sides : List Side) → HaveTypes typed es us → operand_kinds resets us ≡ Some kinds
      → AreSides ts meant sides (sized_types sized es) → HaveWidths meant sides (sized_types sized es)
  operands_have resets no_expressions us kinds [] have is are = tt
  operands_have resets no_expressions us kinds (side ∷ sides) have is are = absurd are
  operands_have resets (expression e es) us kinds [] have is are = absurd are
  operands_have resets (expression e es) us kinds (side ∷ sides) have is are =
      let j = kinds_joined resets have.0 have.1 kinds (ap (operand_kinds resets) (sym have.4) ∙ is) in
      let shape = typed_shape meant firsts typed sized stand e have.0 have.2 in (
        side_has ts meant side (sized_type sized e) are.0 (kind_scalar resets (sized_type sized e) have.0 j.kind shape j.one),
        operands_have resets es have.1 j.rest sides have.3 j.others are.1,
      )

  -- what is read of the operands
  pub record OperandsRead (es : Expressions) (sides : List Side) : Type 0 where
    pub one : Side
    pub others : List Side
    pub are : sides ≡ one ∷ others
    pub have : HaveWidths meant sides (sized_types sized es)
    pub has : Has meant one.first (width_in (first_sized (sized_types sized es)))
    pub shape : bare_type (first_sized (sized_types sized es)) ≡ bare (found_type ts one.found)

  pub operands_read : (p : Place) (op : PrimOp) (es : Expressions) (ks : List ℕ) (t : DataType) (sides : List Side) → HasType typed (operation p op es ks) t
      → AreSides ts meant sides (sized_types sized es) → OperandsRead es sides
  operands_read p op no_expressions ks t sides h are =
      let kindless : operand_kinds (is_conversion op) [] ≡ Some h.1 = ap (operand_kinds (is_conversion op)) (sym h.2) ∙ h.3 in
      let none : h.1 ≡ [] = cc in
      let counts = both (has_counts (form_of op) (length h.1) (length ks)) (has_kinds (form_of op) h.1) h.4 in
      absurd (has_operand (form_of op) h.1 (length ks) counts.0 none)
  operands_read p op (expression e es) ks t [] h are = absurd are
  operands_read p op (expression e es) ks t (side ∷ sides) h are =
      let have = operands_have (is_conversion op) (expression e es) h.0 h.1 (side ∷ sides) h.2 h.3 are in
      record { one = side; others = sides; are = refl; have = have; has = have.0; shape = are.0.shape }
