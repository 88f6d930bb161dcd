-- Sizes of types, as the table keeps them.
use Rattle.std.specs.Prelude.{ℕ, ◌+◌, List, if◌then◌else◌}
use Rattle.std.specs.Str.{bytes_eq}
use Rattle.fir_ast.specs.Types.{DataType, bundle, Fields, no_fields, field}
use Rattle.fir_meaning.specs.TypeLeaves.{leaf_count}
use Rattle.fir_meaning.specs.SharedLeaves.{shared_count}

-- how many stand before the first field of that name; where no field has it, all
abbrev pub leaves_before_field : List ℕ → Fields → ℕ
leaves_before_field name no_fields = 0
leaves_before_field name (field p flip x begins t rest) = if bytes_eq x name then 0 else leaf_count t + leaves_before_field name rest

abbrev pub leaves_before : List ℕ → DataType → ℕ
leaves_before name (bundle fs) = leaves_before_field name fs
leaves_before name _ = 0

-- the same where all elements of a vector share theirs
abbrev pub shared_before_field : List ℕ → Fields → ℕ
shared_before_field name no_fields = 0
shared_before_field name (field p flip x begins t rest) = if bytes_eq x name then 0 else shared_count t + shared_before_field name rest

abbrev pub shared_before : List ℕ → DataType → ℕ
shared_before name (bundle fs) = shared_before_field name fs
shared_before name _ = 0
