-- Where an expression has a type, its sized type has that shape; so operands of operations are scalars, and a condition is a UInt.
use Rattle.std.proofs.Common.{◌≡◌, ℕ, List, [], ◌∷◌, Bool, false, Option, Some, None, refl, sym, ap, ◌∙◌}
use Rattle.fir_bits.specs.declared.types.NumTy.{NumTy}
use Rattle.fir_bits.specs.Forms.{first_type}
use Rattle.fir_ast.specs.Types.{DataType, uint, sint, clock, reset, async_reset, bundle, vector}
use Rattle.fir_ast.specs.Expressions.{Expression, reference, literal, operation, mux, validif, Parts, no_parts, subfield, subindex, subaccess, Expressions, no_expressions, expression}
use Rattle.fir_meaning.specs.Checked.{joined}
use Rattle.fir_meaning.specs.OperationTypes.{is_conversion, operand_kind, operand_kinds}
use Rattle.fir_meaning.specs.Reaching.{Reached, at_any, at_element, at_field}
use Rattle.fir_meaning.specs.TypeKinds.{bare}
use Rattle.fir_meaning.specs.TypedScopes.{TypedScope}
use Rattle.fir_meaning.specs.SizedOperations.{first_sized, greater_of, is_signed, operation_width, width_in}
use Rattle.fir_meaning.specs.SizedScopes.{SizedScope, literal_width, sized_in, sized_part, sized_type, sized_types}
use Rattle.fir_meaning.specs.SizedTypes.{Scalar, Sized, scalar, sized_bundle, sized_vector, bare_type, element_in, fields_in, sized_found, sized_named}
use Rattle.fir_meaning.specs.working.WellTyped.{HasType, HaveTypes, Leads}
use Rattle.fir_meaning.specs.WidthExpressions.{Width, known}
use Rattle.fir_meaning.proofs.SizedShapes.{bare_again, element_bare, field_bare, greater_bare, guarded_bare, number_bare, operand_signed, result_bare}
use Rattle.fir_infer_widths.specs.working.Scenes.{AllStand}
use Rattle.fir_infer_widths.proofs.KnownSides.{root_stands}

-- the kinds of operands, one by one
pub record KindsJoined (resets : Bool) (t : DataType) (ts : List DataType) (kinds : List NumTy) : Type 0 where
  pub kind : NumTy
  pub rest : List NumTy
  pub one : operand_kind resets t ≡ Some kind
  pub others : operand_kinds resets ts ≡ Some rest
  pub both : kinds ≡ kind ∷ rest

pub kinds_joined : (resets : Bool) (t : DataType) (ts : List DataType) (kinds : List NumTy) → operand_kinds resets (t ∷ ts) ≡ Some kinds → KindsJoined resets t ts kinds
kinds_joined resets t ts kinds h = by (operand_kind resets t) (operand_kinds resets ts) refl refl h
  where
    by : (o : Option NumTy) (p : Option (List NumTy)) → operand_kind resets t ≡ o → operand_kinds resets ts ≡ p → joined (λ s ss. s ∷ ss) o p ≡ Some kinds
        → KindsJoined resets t ts kinds
    by None p e f k = cc
    by (Some s) None e f k = cc
    by (Some s) (Some ss) e f k = record { kind = s; rest = ss; one = e; others = f; both = (cc) }

parts_shape : (typed : TypedScope) (s : Sized) (b r : Reached) (ps : Parts) → bare_type s ≡ bare b.data_type → Leads typed b ps r → bare_type (sized_part s ps) ≡ bare r.data_type
parts_shape typed s b r no_parts e h = e ∙ ap (λ (x : Reached). bare x.data_type) (sym h)
parts_shape typed s b r (subfield first q x rest) e h =
    parts_shape typed (sized_found (sized_named x (fields_in s))) (at_field x b h.0) r rest (field_bare s b.data_type x h.0 e h.1) h.2
parts_shape typed s b r (subindex first q i rest) e h =
    parts_shape typed (element_in s) (at_element i b h.0) r rest (element_bare s b.data_type (h.0, h.1) e h.2) h.4
parts_shape typed s b r (subaccess first x rest) e h =
    parts_shape typed (element_in s) (at_any b (h.1, h.2)) r rest (element_bare s b.data_type (h.1, h.2) e h.4) h.5

module _ (meant : List Width) (firsts : List ℕ) (typed : TypedScope) (sized : SizedScope) (stand : AllStand meant firsts typed sized) where
  mutual
    pub typed_shape : (e : Expression) (t : DataType) → HasType typed e t → bare_type (sized_type sized e) ≡ bare t
    typed_shape (reference p n ps) t h =
        let root = root_stands meant firsts typed sized stand n h.0 h.2 in
        parts_shape typed (sized_in sized n) h.0 h.1 ps root.name.shape h.3 ∙ ap bare (sym h.4)
    typed_shape (literal l) t h = number_bare l.signed l.width (known (literal_width l)) ∙ ap bare (sym h)
    typed_shape (operation p op es ks) t h =
        let same = first_shape (is_conversion op) es h.0 h.1 h.2 h.3 in
        result_bare op h.1 (is_signed (first_sized (sized_types sized es))) (operation_width op (sized_types sized es) ks) same ∙ ap bare (sym h.5)
    typed_shape (mux p c a b) t h =
        let s = sized_type sized a in
        let u = sized_type sized b in
        guarded_bare (width_in (sized_type sized c)) (greater_of s u)
        ∙ (greater_bare s u ∙ (typed_shape a h.1 h.4 ∙ (sym (bare_again h.1) ∙ ap bare (sym h.11))))
    typed_shape (validif p c a) t h =
        guarded_bare (width_in (sized_type sized c)) (sized_type sized a) ∙ (typed_shape a h.1 h.3 ∙ (sym (bare_again h.1) ∙ ap bare (sym h.6)))

    first_shape : (resets : Bool) (es : Expressions) (ts : List DataType) (kinds : List NumTy) → HaveTypes typed es ts → operand_kinds resets ts ≡ Some kinds
        → is_signed (first_sized (sized_types sized es)) ≡ (first_type kinds).signed
    first_shape resets no_expressions ts kinds h k =
        let kindless : operand_kinds resets [] ≡ Some kinds = ap (operand_kinds resets) (sym h) ∙ k in
        let same : kinds ≡ [] = cc in
        rw same refl
    first_shape resets (expression e es) ts kinds h k =
        let j = kinds_joined resets h.0 h.1 kinds (ap (operand_kinds resets) (sym h.4) ∙ k) in
        operand_signed resets (sized_type sized e) h.0 j.kind (typed_shape e h.0 h.2) j.one ∙ ap (λ us. (first_type us).signed) (sym j.both)

-- a scalar of some width
pub record IsScalar (s : Sized) : Type 0 where
  pub kind : Scalar
  pub width : Width
  pub is : s ≡ scalar kind width

pub kind_scalar : (resets : Bool) (s : Sized) (t : DataType) (k : NumTy) → bare_type s ≡ bare t → operand_kind resets t ≡ Some k → IsScalar s
kind_scalar resets (scalar kind w) t k e h = record { kind = kind; width = w; is = refl }
kind_scalar resets (sized_bundle fs) (bundle gs) k e h = cc
kind_scalar resets (sized_bundle fs) (uint w) k e h = cc
kind_scalar resets (sized_bundle fs) (sint w) k e h = cc
kind_scalar resets (sized_bundle fs) clock k e h = cc
kind_scalar resets (sized_bundle fs) reset k e h = cc
kind_scalar resets (sized_bundle fs) async_reset k e h = cc
kind_scalar resets (sized_bundle fs) (vector t n) k e h = cc
kind_scalar resets (sized_vector u m) (bundle gs) k e h = cc
kind_scalar resets (sized_vector u m) (uint w) k e h = cc
kind_scalar resets (sized_vector u m) (sint w) k e h = cc
kind_scalar resets (sized_vector u m) clock k e h = cc
kind_scalar resets (sized_vector u m) reset k e h = cc
kind_scalar resets (sized_vector u m) async_reset k e h = cc
kind_scalar resets (sized_vector u m) (vector t n) k e h = cc

pub unsigned_scalar : (s : Sized) (width : Option ℕ) → bare_type s ≡ bare (uint width) → IsScalar s
unsigned_scalar s width e = kind_scalar false s (uint width) _ e refl
