-- Which types are equivalent, and which a connect and a partial connect may join (FIRRTL spec, "Type Equivalence", "Connects", "Partial Connects").
-- That a Reset fits a UInt and an AsyncReset there is a choice of this project.
use Rattle.std.specs.Prelude.{Bool, true, false, ◌&&◌, ◌==◌, Option, Some, None}
use Rattle.std.specs.Bool.{beq}
use Rattle.std.specs.Str.{bytes_eq}
use Rattle.fir_ast.specs.Types.{DataType, uint, sint, clock, reset, async_reset, bundle, vector, Fields, no_fields, field}
use Rattle.fir_meaning.specs.TypeKinds.{FieldFound, field_named}

-- ground types of one kind, whatever their widths
abbrev pub same_ground : DataType → DataType → Bool
same_ground (uint v) (uint w) = true
same_ground (sint v) (sint w) = true
same_ground clock clock = true
same_ground reset reset = true
same_ground async_reset async_reset = true
same_ground _ _ = false

-- in a connect a Reset fits a UInt and an AsyncReset too
abbrev pub fitting_ground : DataType → DataType → Bool
fitting_ground reset (uint w) = true
fitting_ground reset async_reset = true
fitting_ground (uint w) reset = true
fitting_ground async_reset reset = true
fitting_ground s t = same_ground s t

-- vectors of one length, and bundles of the same fields in the same order and orientation, whose ground parts pass the test
abbrev mutual
  pub alike : (DataType → DataType → Bool) → DataType → DataType → Bool
  alike test (bundle fs) (bundle gs) = fields_alike test fs gs
  alike test (bundle fs) _ = false
  alike test (vector t n) (vector u m) = n == m && alike test t u
  alike test (vector t n) _ = false
  alike test s (bundle gs) = false
  alike test s (vector u m) = false
  alike test s t = test s t

  pub fields_alike : (DataType → DataType → Bool) → Fields → Fields → Bool
  fields_alike test no_fields no_fields = true
  fields_alike test (field p f x b t fs) (field q g y c u gs) = beq f g && (bytes_eq x y && (alike test t u && fields_alike test fs gs))
  fields_alike test _ _ = false

-- of the arms of a mux, and of a register and its init
abbrev pub is_equivalent : DataType → DataType → Bool
is_equivalent = alike same_ground

-- of the two sides of `<=`
abbrev pub is_connectable : DataType → DataType → Bool
is_connectable = alike fitting_ground

-- with a field that the other bundle may have too
abbrev pub met : {A : Type 0} → A → (FieldFound → A) → Option FieldFound → A
met none of_both None = none
met none of_both (Some f) = of_both f

-- of the two sides of `<-`: fields that both have are of one orientation, and ground parts that meet fit; the elements of two vectors meet whatever
-- their lengths
abbrev mutual
  pub is_partly_connectable : DataType → DataType → Bool
  is_partly_connectable (bundle fs) (bundle gs) = fields_partly_connectable fs gs
  is_partly_connectable (bundle fs) _ = false
  is_partly_connectable (vector t n) (vector u m) = is_partly_connectable t u
  is_partly_connectable (vector t n) _ = false
  is_partly_connectable s (bundle gs) = false
  is_partly_connectable s (vector u m) = false
  is_partly_connectable s t = fitting_ground s t

  pub fields_partly_connectable : Fields → Fields → Bool
  fields_partly_connectable no_fields gs = true
  fields_partly_connectable (field p f x b t fs) gs =
      met true (λ g. beq f g.flip && is_partly_connectable t g.data_type) (field_named x gs) && fields_partly_connectable fs gs
