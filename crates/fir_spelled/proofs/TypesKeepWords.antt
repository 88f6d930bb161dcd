-- Behind a type all words are spelled as words that were before.
use Rattle.std.proofs.Common.{ℕ, ◌+◌, Bool, true, false, Option, Some, None}
use Rattle.fir_ast.specs.declared.place.Place.{Place}
use Rattle.fir_ast.specs.Statements.{PlacedName}
use Rattle.fir_ast.specs.Types.{DataType, uint, sint, clock, reset, async_reset, bundle, vector, Fields, no_fields, field}
use Rattle.fir_parse.specs.Limits.{everywhere}
use Rattle.fir_parse.specs.Pieces.{Digits, FieldName, Int, IntAt}
use Rattle.fir_parse.specs.TypeForms.{IsWidth, IsFlip, IsType, AreFields, AreMoreFields}
use Rattle.fir_spelled.proofs.WordPieces.{KeepsWords, keeps, token, somewhere, nothing, given, at, next, either}

digits : {n : ℕ} {p : Place} → KeepsWords (Digits n p)
digits = keeps (λ a b x. (token).front a b x.3)

pub int_at : {n : ℕ} {p : Place} → KeepsWords (IntAt everywhere n p)
int_at = next digits given

pub int : {n : ℕ} → KeepsWords (Int everywhere n)
int = keeps (λ a b x. (int_at).front a b x.1)

pub field_name : {n : PlacedName} → KeepsWords (FieldName n)
field_name = either token (next given token)

pub width : (w : Option ℕ) → KeepsWords (IsWidth everywhere w)
width None = nothing
width (Some n) = next somewhere (next int somewhere)

pub flipped : (f : Bool) → KeepsWords (IsFlip f)
flipped false = nothing
flipped true = somewhere

mutual
  pub type_keeps : (d : ℕ) (t : DataType) → KeepsWords (IsType everywhere d t)
  type_keeps d (uint w) = next somewhere (width w)
  type_keeps d (sint w) = next somewhere (width w)
  type_keeps d clock = somewhere
  type_keeps d reset = somewhere
  type_keeps d async_reset = somewhere
  type_keeps d (bundle fs) = next somewhere (next given (next (fields_keep (d + 1) fs) (next somewhere given)))
  type_keeps d (vector t n) = next (type_keeps d t) (next somewhere (next given (next int (next somewhere given))))

  fields_keep : (d : ℕ) (fs : Fields) → KeepsWords (AreFields everywhere d fs)
  fields_keep d no_fields = nothing
  fields_keep d (field p flip n q t rest) = next (flipped flip) (next field_name (next somewhere (next (next at (type_keeps d t)) (more_fields_keep d rest))))

  more_fields_keep : (d : ℕ) (fs : Fields) → KeepsWords (AreMoreFields everywhere d fs)
  more_fields_keep d no_fields = nothing
  more_fields_keep d (field p flip n q t rest) =
      next somewhere (next (flipped flip) (next field_name (next somewhere (next (next at (type_keeps d t)) (more_fields_keep d rest)))))
