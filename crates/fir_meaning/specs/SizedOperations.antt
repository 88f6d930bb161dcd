-- The sized types of operations, of muxes and of validifs (FIRRTL spec, "Primitive Operations", "Multiplexers", "Conditionally Valids").
use Rattle.std.specs.Prelude.{ℕ, List, [], ◌∷◌, Bool, true, false, slice_index}
use Rattle.fir_bits.specs.declared.operators.PrimOp.{PrimOp}
use Rattle.fir_bits.specs.declared.operators.PrimOp.TheVariants.{AsAsyncReset}
use Rattle.fir_bits.specs.Types.{signed_of}
use Rattle.fir_meaning.specs.WidthExpressions.{Width, known, single, pair, greater, guarded}
use Rattle.fir_meaning.specs.SizedTypes.{Scalar, unsigned, signed, async_scalar, Sized, scalar, sized_bundle, sized_vector, SizedFields, no_sized_fields, sized_field, untyped}

abbrev pub number_scalar : Bool → Scalar
number_scalar true = signed
number_scalar false = unsigned

abbrev pub is_signed : Sized → Bool
is_signed (scalar signed w) = true
is_signed _ = false

abbrev pub width_in : Sized → Width
width_in (scalar s w) = w
width_in _ = known 0

abbrev pub first_sized : List Sized → Sized
first_sized [] = untyped
first_sized (t ∷ ts) = t

abbrev pub result_scalar : PrimOp → Bool → Scalar
result_scalar AsAsyncReset is = async_scalar
result_scalar op is = number_scalar (signed_of op is)

-- an operation takes one or two operands
abbrev pub operation_width : PrimOp → List Sized → List ℕ → Width
operation_width op (a ∷ []) ks = single op (is_signed a) (width_in a) (slice_index ks 0) (slice_index ks 1)
operation_width op (a ∷ b ∷ []) ks = pair op (is_signed a) (width_in a) (width_in b)
operation_width op _ ks = known 0

abbrev pub sized_operation : PrimOp → List Sized → List ℕ → Sized
sized_operation op ts ks = scalar (result_scalar op (is_signed (first_sized ts))) (operation_width op ts ks)

-- the greater widths, leaf by leaf; the arms of a mux are of one shape
abbrev mutual
  pub greater_of : Sized → Sized → Sized
  greater_of (scalar s v) (scalar t w) = scalar s (greater v w)
  greater_of (sized_bundle fs) (sized_bundle gs) = sized_bundle (greater_fields fs gs)
  greater_of (sized_vector t n) (sized_vector u m) = sized_vector (greater_of t u) n
  greater_of t _ = t

  pub greater_fields : SizedFields → SizedFields → SizedFields
  greater_fields (sized_field p flip x begins t rest) (sized_field q turn y starts u more) =
      sized_field p flip x begins (greater_of t u) (greater_fields rest more)
  greater_fields fs _ = fs

-- each leaf over where the condition is over
abbrev mutual
  pub guarded_by : Width → Sized → Sized
  guarded_by c (scalar s w) = scalar s (guarded c w)
  guarded_by c (sized_bundle fs) = sized_bundle (guarded_fields c fs)
  guarded_by c (sized_vector t n) = sized_vector (guarded_by c t) n

  pub guarded_fields : Width → SizedFields → SizedFields
  guarded_fields c no_sized_fields = no_sized_fields
  guarded_fields c (sized_field p flip x begins t rest) = sized_field p flip x begins (guarded_by c t) (guarded_fields c rest)
