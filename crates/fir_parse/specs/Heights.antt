-- The height of types and expressions: a name, a literal, a ground type and an empty bundle have height 1, any other form one more than its
-- tallest part. In a reference and a type each dot and each index makes a form, whose parts are all that stands before it and its index.
use Rattle.std.specs.Prelude.{ℕ, ◌+◌, max}
use Rattle.fir_ast.specs.Types.{DataType, uint, sint, clock, reset, async_reset, bundle, vector, Fields, no_fields, field}
use Rattle.fir_ast.specs.Expressions.{Expression, reference, literal, operation, mux, validif, Parts, no_parts, subfield, subindex, subaccess, Expressions, no_expressions, expression}

abbrev mutual
  pub type_height : DataType → ℕ
  type_height (uint w) = 1
  type_height (sint w) = 1
  type_height clock = 1
  type_height reset = 1
  type_height async_reset = 1
  type_height (bundle fs) = fields_height fs + 1
  type_height (vector t n) = type_height t + 1

  -- of the tallest field
  pub fields_height : Fields → ℕ
  fields_height no_fields = 0
  fields_height (field place flip name begins t rest) = max (type_height t) (fields_height rest)

abbrev mutual
  pub height : Expression → ℕ
  height (reference place name parts) = height_with parts 1
  height (literal l) = 1
  height (operation place op es ns) = tallest es + 1
  height (mux place c a b) = max (height c) (max (height a) (height b)) + 1
  height (validif place c a) = max (height c) (height a) + 1

  -- of what has a height, with parts behind it
  pub height_with : Parts → ℕ → ℕ
  height_with no_parts h = h
  height_with (subfield first place name rest) h = height_with rest (h + 1)
  height_with (subindex first place n rest) h = height_with rest (h + 1)
  height_with (subaccess first e rest) h = height_with rest (max h (height e) + 1)

  pub tallest : Expressions → ℕ
  tallest no_expressions = 0
  tallest (expression e rest) = max (height e) (tallest rest)
