-- Types whose ground parts have widths (FIRRTL spec, "Types", "Width Inference").
-- Each leaf of a declaration has a number, in the order of the type, and where no width is written it is that of its unknown. All elements of a vector share
-- the leaves of the element type. A vector of length 0 has no leaf: what is not written there has width 0, and its numbers stand for nothing.
use Rattle.std.specs.Prelude.{ℕ, ◌+◌, ◌==◌, List, Bool, if◌then◌else◌, Option, Some, None, option_map}
use Rattle.std.specs.Str.{bytes_eq}
use Rattle.fir_ast.specs.declared.place.Place.{Place}
use Rattle.fir_ast.specs.Types.{DataType, uint, sint, clock, reset, async_reset, bundle, vector, Fields, no_fields, field}
use Rattle.fir_meaning.specs.SharedLeaves.{shared_count}
use Rattle.fir_meaning.specs.WidthExpressions.{Width, known, unknown}

pub data Scalar : Type 0 where
  unsigned : Scalar
  signed : Scalar
  clock_scalar : Scalar
  reset_scalar : Scalar
  async_scalar : Scalar

mutual
  pub data Sized : Type 0 where
    scalar : Scalar → Width → Sized
    sized_bundle : SizedFields → Sized
    sized_vector : Sized → ℕ → Sized

  -- where the name stands, whether it is flipped, the name, where the type begins, the type
  pub data SizedFields : Type 0 where
    no_sized_fields : SizedFields
    sized_field : Place → Bool → List ℕ → Place → Sized → SizedFields → SizedFields

-- what has no type counts as a bundle without fields
abbrev pub untyped : Sized
untyped = sized_bundle no_sized_fields

-- the width of a leaf with a number or with none, written or not
abbrev pub leaf_width : Option ℕ → Option ℕ → Width
leaf_width at (Some w) = known w
leaf_width (Some k) None = unknown k
leaf_width None None = known 0

-- behind so many numbers
abbrev pub past : ℕ → Option ℕ → Option ℕ
past n at = option_map (λ k. k + n) at

-- the type that is written, with its leaves numbered from a number on, or with no numbers; a reset counts as one bit
abbrev mutual
  pub numbered : Option ℕ → DataType → Sized
  numbered at (uint w) = scalar unsigned (leaf_width at w)
  numbered at (sint w) = scalar signed (leaf_width at w)
  numbered at clock = scalar clock_scalar (known 0)
  numbered at reset = scalar reset_scalar (known 1)
  numbered at async_reset = scalar async_scalar (known 1)
  numbered at (bundle fs) = sized_bundle (numbered_fields at fs)
  numbered at (vector t n) = sized_vector (numbered (if n == 0 then None else at) t) n

  pub numbered_fields : Option ℕ → Fields → SizedFields
  numbered_fields at no_fields = no_sized_fields
  numbered_fields at (field p flip x begins t rest) = sized_field p flip x begins (numbered at t) (numbered_fields (past (shared_count t) at) rest)

-- the type without its widths
abbrev mutual
  pub bare_type : Sized → DataType
  bare_type (scalar unsigned w) = uint None
  bare_type (scalar signed w) = sint None
  bare_type (scalar clock_scalar w) = clock
  bare_type (scalar reset_scalar w) = reset
  bare_type (scalar async_scalar w) = async_reset
  bare_type (sized_bundle fs) = bundle (bare_type_fields fs)
  bare_type (sized_vector t n) = vector (bare_type t) n

  pub bare_type_fields : SizedFields → Fields
  bare_type_fields no_sized_fields = no_fields
  bare_type_fields (sized_field p flip x begins t rest) = field p flip x begins (bare_type t) (bare_type_fields rest)

-- the width that is written
abbrev pub written_width : Width → Option ℕ
written_width (known w) = Some w
written_width _ = None

-- the type with the widths that are written
abbrev mutual
  pub written_type : Sized → DataType
  written_type (scalar unsigned w) = uint (written_width w)
  written_type (scalar signed w) = sint (written_width w)
  written_type (scalar clock_scalar w) = clock
  written_type (scalar reset_scalar w) = reset
  written_type (scalar async_scalar w) = async_reset
  written_type (sized_bundle fs) = bundle (written_fields fs)
  written_type (sized_vector t n) = vector (written_type t) n

  pub written_fields : SizedFields → Fields
  written_fields no_sized_fields = no_fields
  written_fields (sized_field p flip x begins t rest) = field p flip x begins (written_type t) (written_fields rest)

-- the type of a node whose expression has this type: of the same shape, with unknowns of its own; below a vector of length 0, where it has no leaf, what is
-- written stays written
abbrev mutual
  pub node_type : Sized → DataType
  node_type (scalar s w) = bare_type (scalar s w)
  node_type (sized_bundle fs) = bundle (node_fields fs)
  node_type (sized_vector t n) = vector (if n == 0 then written_type t else node_type t) n

  pub node_fields : SizedFields → Fields
  node_fields no_sized_fields = no_fields
  node_fields (sized_field p flip x begins t rest) = field p flip x begins (node_type t) (node_fields rest)

abbrev pub renumbered : ℕ → Sized → Sized
renumbered k t = numbered (Some k) (node_type t)

-- the first field of that name
abbrev pub sized_named : List ℕ → SizedFields → Option Sized
sized_named name no_sized_fields = None
sized_named name (sized_field p flip x begins t rest) = if bytes_eq x name then Some t else sized_named name rest

abbrev pub sized_found : Option Sized → Sized
sized_found None = untyped
sized_found (Some t) = t

-- the fields of a bundle, and the element type of a vector
abbrev pub fields_in : Sized → SizedFields
fields_in (sized_bundle fs) = fs
fields_in _ = no_sized_fields

abbrev pub element_in : Sized → Sized
element_in (sized_vector t n) = t
element_in _ = untyped
