-- Sized types without their widths: the operations on them keep the shape.
use Rattle.std.proofs.Common.{◌≡◌, ℕ, ◌==◌, List, Bool, true, false, if◌then◌else◌, Option, Some, None, refl, ap, ◌∙◌, subst}
use Rattle.std.specs.Str.{bytes_eq}
use Rattle.fir_bits.specs.declared.operators.PrimOp.{PrimOp}
use Rattle.fir_bits.specs.declared.operators.PrimOp.TheVariants.{AsAsyncReset}
use Rattle.fir_bits.specs.declared.types.NumTy.{NumTy}
use Rattle.fir_bits.specs.Forms.{first_type}
use Rattle.fir_bits.specs.Types.{signed_of}
use Rattle.fir_ast.specs.Types.{DataType, uint, sint, clock, reset, async_reset, bundle, vector, Fields, no_fields, field}
use Rattle.fir_meaning.specs.TypeKinds.{bare, bare_fields, FieldFound, field_named}
use Rattle.fir_meaning.specs.OperationTypes.{operand_kind, ground_of, result_of}
use Rattle.fir_meaning.specs.ExpressionTypes.{number_data_type}
use Rattle.fir_meaning.specs.Reaching.{field_of_type, vector_of_type}
use Rattle.fir_meaning.specs.SharedLeaves.{shared_count}
use Rattle.fir_meaning.specs.WidthExpressions.{Width}
use Rattle.fir_meaning.specs.SizedTypes.{Scalar, unsigned, signed, clock_scalar, reset_scalar, async_scalar, Sized, scalar, sized_bundle, sized_vector, SizedFields, no_sized_fields, sized_field, past, numbered, numbered_fields, bare_type, bare_type_fields, written_type, written_fields, node_type, node_fields, renumbered, sized_named, sized_found, fields_in, element_in}
use Rattle.fir_meaning.specs.SizedOperations.{number_scalar, is_signed, result_scalar, greater_of, greater_fields, guarded_by, guarded_fields}

-- the type that is written
mutual
  pub numbered_bare : (at : Option ℕ) (t : DataType) → bare_type (numbered at t) ≡ bare t
  numbered_bare at (uint w) = refl
  numbered_bare at (sint w) = refl
  numbered_bare at clock = refl
  numbered_bare at reset = refl
  numbered_bare at async_reset = refl
  numbered_bare at (bundle fs) = ap bundle (numbered_fields_bare at fs)
  numbered_bare at (vector t n) = ap (λ u. vector u n) (numbered_bare (if n == 0 then None else at) t)

  numbered_fields_bare : (at : Option ℕ) (fs : Fields) → bare_type_fields (numbered_fields at fs) ≡ bare_fields fs
  numbered_fields_bare at no_fields = refl
  numbered_fields_bare at (field p flip x begins t rest) =
      rw (numbered_bare at t, numbered_fields_bare (past (shared_count t) at) rest) refl

mutual
  pub bare_again : (t : DataType) → bare (bare t) ≡ bare t
  bare_again (uint w) = refl
  bare_again (sint w) = refl
  bare_again clock = refl
  bare_again reset = refl
  bare_again async_reset = refl
  bare_again (bundle fs) = ap bundle (bare_fields_again fs)
  bare_again (vector t n) = ap (λ u. vector u n) (bare_again t)

  bare_fields_again : (fs : Fields) → bare_fields (bare_fields fs) ≡ bare_fields fs
  bare_fields_again no_fields = refl
  bare_fields_again (field p flip x begins t rest) = rw (bare_again t, bare_fields_again rest) refl

-- nor does the shape of a node's type
mutual
  pub written_bare : (s : Sized) → bare (written_type s) ≡ bare_type s
  written_bare (scalar unsigned w) = refl
  written_bare (scalar signed w) = refl
  written_bare (scalar clock_scalar w) = refl
  written_bare (scalar reset_scalar w) = refl
  written_bare (scalar async_scalar w) = refl
  written_bare (sized_bundle fs) = ap bundle (written_fields_bare fs)
  written_bare (sized_vector t n) = ap (λ u. vector u n) (written_bare t)

  written_fields_bare : (fs : SizedFields) → bare_fields (written_fields fs) ≡ bare_type_fields fs
  written_fields_bare no_sized_fields = refl
  written_fields_bare (sized_field p flip x begins t rest) = rw (written_bare t, written_fields_bare rest) refl

mutual
  pub node_bare : (s : Sized) → bare (node_type s) ≡ bare_type s
  node_bare (scalar unsigned w) = refl
  node_bare (scalar signed w) = refl
  node_bare (scalar clock_scalar w) = refl
  node_bare (scalar reset_scalar w) = refl
  node_bare (scalar async_scalar w) = refl
  node_bare (sized_bundle fs) = ap bundle (node_fields_bare fs)
  node_bare (sized_vector t n) = ap (λ u. vector u n) (by (n == 0) (node_bare t))
    where
      by : (b : Bool) → bare (node_type t) ≡ bare_type t → bare (if b then written_type t else node_type t) ≡ bare_type t
      by true inside = written_bare t
      by false inside = inside

  node_fields_bare : (fs : SizedFields) → bare_fields (node_fields fs) ≡ bare_type_fields fs
  node_fields_bare no_sized_fields = refl
  node_fields_bare (sized_field p flip x begins t rest) = rw (node_bare t, node_fields_bare rest) refl

pub renumbered_bare : (k : ℕ) (s : Sized) (t : DataType) → bare_type s ≡ bare t → bare_type (renumbered k s) ≡ bare t
renumbered_bare k s t e = numbered_bare (Some k) (node_type s) ∙ (node_bare s ∙ e)

-- the shape does not hang on widths
any_width : (s : Scalar) (v w : Width) → bare_type (scalar s v) ≡ bare_type (scalar s w)
any_width unsigned v w = refl
any_width signed v w = refl
any_width clock_scalar v w = refl
any_width reset_scalar v w = refl
any_width async_scalar v w = refl

mutual
  pub greater_bare : (s t : Sized) → bare_type (greater_of s t) ≡ bare_type s
  greater_bare (scalar s v) (scalar t w) = any_width s _ v
  greater_bare (scalar s v) (sized_bundle gs) = refl
  greater_bare (scalar s v) (sized_vector u m) = refl
  greater_bare (sized_bundle fs) (sized_bundle gs) = ap bundle (greater_fields_bare fs gs)
  greater_bare (sized_bundle fs) (scalar t w) = refl
  greater_bare (sized_bundle fs) (sized_vector u m) = refl
  greater_bare (sized_vector t n) (sized_vector u m) = ap (λ v. vector v n) (greater_bare t u)
  greater_bare (sized_vector t n) (scalar u w) = refl
  greater_bare (sized_vector t n) (sized_bundle gs) = refl

  greater_fields_bare : (fs gs : SizedFields) → bare_type_fields (greater_fields fs gs) ≡ bare_type_fields fs
  greater_fields_bare no_sized_fields gs = refl
  greater_fields_bare (sized_field p flip x begins t rest) no_sized_fields = refl
  greater_fields_bare (sized_field p flip x begins t rest) (sized_field q turn y starts u more) =
      rw (greater_bare t u, greater_fields_bare rest more) refl

mutual
  pub guarded_bare : (c : Width) (s : Sized) → bare_type (guarded_by c s) ≡ bare_type s
  guarded_bare c (scalar s w) = any_width s _ w
  guarded_bare c (sized_bundle fs) = ap bundle (guarded_fields_bare c fs)
  guarded_bare c (sized_vector t n) = ap (λ u. vector u n) (guarded_bare c t)

  guarded_fields_bare : (c : Width) (fs : SizedFields) → bare_type_fields (guarded_fields c fs) ≡ bare_type_fields fs
  guarded_fields_bare c no_sized_fields = refl
  guarded_fields_bare c (sized_field p flip x begins t rest) = rw (guarded_bare c t, guarded_fields_bare c rest) refl

-- numbers, and results of operations
pub number_bare : (is : Bool) (width : Option ℕ) (w : Width) → bare_type (scalar (number_scalar is) w) ≡ bare (number_data_type is width)
number_bare true width w = refl
number_bare false width w = refl

ground_bare : (is : Bool) (w : Width) → bare_type (scalar (number_scalar is) w) ≡ bare (ground_of is)
ground_bare true w = refl
ground_bare false w = refl

pub result_bare : (op : PrimOp) (kinds : List NumTy) (is : Bool) (w : Width) → is ≡ (first_type kinds).signed
    → bare_type (scalar (result_scalar op is) w) ≡ bare (result_of op kinds)
result_bare AsAsyncReset kinds is w e = refl
result_bare op kinds is w e = subst (λ b. bare_type (scalar (number_scalar (signed_of op is)) w) ≡ bare (ground_of (signed_of op b))) e (ground_bare (signed_of op is) w)

-- whether a type is an SInt
abbrev signed_type : DataType → Bool
signed_type (sint w) = true
signed_type _ = false

sign_bare : (s : Sized) → is_signed s ≡ signed_type (bare_type s)
sign_bare (scalar unsigned w) = refl
sign_bare (scalar signed w) = refl
sign_bare (scalar clock_scalar w) = refl
sign_bare (scalar reset_scalar w) = refl
sign_bare (scalar async_scalar w) = refl
sign_bare (sized_bundle fs) = refl
sign_bare (sized_vector t n) = refl

kind_signed : (resets : Bool) (t : DataType) (k : NumTy) → operand_kind resets t ≡ Some k → signed_type (bare t) ≡ k.signed
kind_signed resets (uint w) k e = cc
kind_signed resets (sint w) k e = cc
kind_signed true reset k e = cc
kind_signed true async_reset k e = cc
kind_signed false reset k e = cc
kind_signed false async_reset k e = cc
kind_signed resets clock k e = cc
kind_signed resets (bundle fs) k e = cc
kind_signed resets (vector t n) k e = cc

pub operand_signed : (resets : Bool) (s : Sized) (t : DataType) (k : NumTy) → bare_type s ≡ bare t → operand_kind resets t ≡ Some k → is_signed s ≡ k.signed
operand_signed resets s t k e f = sign_bare s ∙ (ap signed_type e ∙ kind_signed resets t k f)

-- parts of types that are the same without widths
bundle_bare : (s : Sized) (gs : Fields) → bare_type s ≡ bundle gs → bare_type_fields (fields_in s) ≡ gs
bundle_bare (scalar unsigned w) gs e = cc
bundle_bare (scalar signed w) gs e = cc
bundle_bare (scalar clock_scalar w) gs e = cc
bundle_bare (scalar reset_scalar w) gs e = cc
bundle_bare (scalar async_scalar w) gs e = cc
bundle_bare (sized_bundle fs) gs e = cc
bundle_bare (sized_vector t n) gs e = cc

vector_bare : (s : Sized) (t : DataType) (n : ℕ) → bare_type s ≡ vector t n → bare_type (element_in s) ≡ t
vector_bare (scalar unsigned w) t n e = cc
vector_bare (scalar signed w) t n e = cc
vector_bare (scalar clock_scalar w) t n e = cc
vector_bare (scalar reset_scalar w) t n e = cc
vector_bare (scalar async_scalar w) t n e = cc
vector_bare (sized_bundle fs) t n e = cc
vector_bare (sized_vector u m) t n e = cc

fields_bare : (gs : SizedFields) (fs : Fields) (x : List ℕ) (f : FieldFound) → bare_type_fields gs ≡ bare_fields fs → field_named x fs ≡ Some f
    → bare_type (sized_found (sized_named x gs)) ≡ bare f.data_type
fields_bare gs no_fields x f e h = cc
fields_bare no_sized_fields (field p flip y begins t rest) x f e h = cc
fields_bare (sized_field q turn z starts s more) (field p flip y begins t rest) x f e h =
    by (bytes_eq y x) refl (fields_bare more rest x f (let d : bare_type_fields more ≡ bare_fields rest = cc in d)) h
  where
    same : z ≡ y
    same = cc

    by : (b : Bool) → bytes_eq y x ≡ b → (field_named x rest ≡ Some f → bare_type (sized_found (sized_named x more)) ≡ bare f.data_type)
        → (if b then Some (record { flip = flip; data_type = t }) else field_named x rest) ≡ Some f
        → bare_type (sized_found (if bytes_eq z x then Some s else sized_named x more)) ≡ bare f.data_type
    by true g later k =
        let here : bare_type s ≡ bare t = cc in
        let is : t ≡ f.data_type = cc in
        rw (same, g) (here ∙ ap bare is)
    by false g later k = rw (same, g) (later k)

pub field_bare : (s : Sized) (t : DataType) (x : List ℕ) (f : FieldFound) → bare_type s ≡ bare t → field_of_type x t ≡ Some f
    → bare_type (sized_found (sized_named x (fields_in s))) ≡ bare f.data_type
field_bare s (bundle fs) x f e h = fields_bare (fields_in s) fs x f (bundle_bare s (bare_fields fs) e) h
field_bare s (uint w) x f e h = cc
field_bare s (sint w) x f e h = cc
field_bare s clock x f e h = cc
field_bare s reset x f e h = cc
field_bare s async_reset x f e h = cc
field_bare s (vector t n) x f e h = cc

pub element_bare : (s : Sized) (t : DataType) (v : DataType × ℕ) → bare_type s ≡ bare t → vector_of_type t ≡ Some v → bare_type (element_in s) ≡ bare v.0
element_bare s (vector t n) v e h = let is : t ≡ v.0 = cc in vector_bare s (bare t) n e ∙ ap bare is
element_bare s (uint w) v e h = cc
element_bare s (sint w) v e h = cc
element_bare s clock v e h = cc
element_bare s reset v e h = cc
element_bare s async_reset v e h = cc
element_bare s (bundle fs) v e h = cc
