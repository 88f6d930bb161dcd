-- All elements of a vector share their leaves: how many leaves a type has then, and so how many numbers a declaration takes (FIRRTL spec, "Types"). A vector has
-- as many as its element, whatever its length, also 0.
use Rattle.std.specs.Prelude.{ℕ, ◌+◌}
use Rattle.fir_ast.specs.Types.{DataType, bundle, vector, Fields, no_fields, field}

abbrev mutual
  pub shared_count : DataType → ℕ
  shared_count (bundle fs) = shared_field_count fs
  shared_count (vector t n) = shared_count t
  shared_count t = 1

  pub shared_field_count : Fields → ℕ
  shared_field_count no_fields = 0
  shared_field_count (field p flip x begins t rest) = shared_count t + shared_field_count rest
