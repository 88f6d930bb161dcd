-- How types, places and walks are printed.
-- Types as in the grammar, with one space after a colon, a comma and `flip`, and none elsewhere.
use Rattle.std.specs.Prelude.{ℕ, ◌/◌, ◌%◌, List, [], ◌∷◌, ◌++◌, Bool, true, false, Option, Some, None, codes, decimal, flat_map}
use Rattle.std.specs.Fmt.{digit_glyph}
use Rattle.fir_ast.specs.declared.place.Place.{Place}
use Rattle.fir_ast.specs.declared.fault.Outcome.{Outcome}
use Rattle.fir_ast.specs.declared.fault.Outcome.TheVariants as outcome
use Rattle.fir_ast.specs.Types.{DataType, uint, sint, clock, reset, async_reset, bundle, vector, Fields, no_fields, field}

abbrev pub place_text : Place → List ℕ
place_text p = decimal p.line ++ codes ":" ++ decimal p.col

abbrev pub width_text : Option ℕ → List ℕ
width_text None = []
width_text (Some w) = codes "<" ++ decimal w ++ codes ">"

abbrev pub flip_text : Bool → List ℕ
flip_text true = codes "flip "
flip_text false = []

abbrev mutual
  pub type_text : DataType → List ℕ
  type_text (uint w) = codes "UInt" ++ width_text w
  type_text (sint w) = codes "SInt" ++ width_text w
  type_text clock = codes "Clock"
  type_text reset = codes "Reset"
  type_text async_reset = codes "AsyncReset"
  type_text (bundle no_fields) = codes "{}"
  type_text (bundle (field place flip name begins t rest)) = codes "{" ++ flip_text flip ++ name ++ codes ": " ++ type_text t ++ next_fields_text rest ++ codes "}"
  type_text (vector t n) = type_text t ++ codes "[" ++ decimal n ++ codes "]"

  -- fields behind another
  pub next_fields_text : Fields → List ℕ
  next_fields_text no_fields = []
  next_fields_text (field place flip name begins t rest) = codes ", " ++ flip_text flip ++ name ++ codes ": " ++ type_text t ++ next_fields_text rest

-- texts with a separator between any two
abbrev pub separated : List ℕ → List (List ℕ) → List ℕ
separated separator [] = []
separated separator (t ∷ ts) = t ++ flat_map (λ next. separator ++ next) ts

abbrev pub outcome_text : Outcome → List ℕ
outcome_text (outcome.When p true) = codes " when@" ++ place_text p ++ codes "=1"
outcome_text (outcome.When p false) = codes " when@" ++ place_text p ++ codes "=0"
outcome_text (outcome.Index p true) = codes " index@" ++ place_text p ++ codes "=hit"
outcome_text (outcome.Index p false) = codes " index@" ++ place_text p ++ codes "=miss"

abbrev pub sign_text : Bool → List ℕ
sign_text true = codes "-"
sign_text false = []

-- a byte as two digits in lower case
abbrev pub hex_byte : ℕ → List ℕ
hex_byte b = digit_glyph false (b / 16) ∷ digit_glyph false (b % 16) ∷ []
