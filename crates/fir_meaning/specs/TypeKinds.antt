-- What a type may be used for: passive, numeric (FIRRTL spec, "Passive Types", "Registers", "Memories", "Multiplexers"); and a type without its widths.
-- That registers, the operands of mux and validif, and the data of memories have UInt and SInt leaves alone is a choice of this project.
use Rattle.std.specs.Prelude.{ℕ, List, Bool, true, false, not, ◌&&◌, ◌||◌, ◌==◌, if◌then◌else◌, Option, Some, None}
use Rattle.std.specs.Str.{bytes_eq}
use Rattle.fir_ast.specs.Types.{DataType, uint, sint, bundle, vector, Fields, no_fields, field}

-- whether no field is flipped, at any depth
abbrev mutual
  pub is_passive : DataType → Bool
  is_passive (bundle fs) = are_passive fs
  is_passive (vector t n) = is_passive t
  is_passive t = true

  pub are_passive : Fields → Bool
  are_passive no_fields = true
  are_passive (field p flip x begins t rest) = not flip && (is_passive t && are_passive rest)

-- whether all leaves are UInt or SInt, as in registers, and in the operands of mux and validif; a vector of length 0 has none
abbrev mutual
  pub is_numeric : DataType → Bool
  is_numeric (uint width) = true
  is_numeric (sint width) = true
  is_numeric (bundle fs) = are_numeric fs
  is_numeric (vector t n) = n == 0 || is_numeric t
  is_numeric t = false

  pub are_numeric : Fields → Bool
  are_numeric no_fields = true
  are_numeric (field p flip x begins t rest) = is_numeric t && are_numeric rest

-- whether all leaves are UInt or SInt with their widths written, as in the data of a memory
abbrev mutual
  pub is_sized : DataType → Bool
  is_sized (uint (Some width)) = true
  is_sized (sint (Some width)) = true
  is_sized (bundle fs) = are_sized fs
  is_sized (vector t n) = n == 0 || is_sized t
  is_sized t = false

  pub are_sized : Fields → Bool
  are_sized no_fields = true
  are_sized (field p flip x begins t rest) = is_sized t && are_sized rest

-- a type without its widths, as the result of an operator, a mux or a validif is printed
abbrev mutual
  pub bare : DataType → DataType
  bare (uint width) = uint None
  bare (sint width) = sint None
  bare (bundle fs) = bundle (bare_fields fs)
  bare (vector t n) = vector (bare t) n
  bare t = t

  pub bare_fields : Fields → Fields
  bare_fields no_fields = no_fields
  bare_fields (field p flip x begins t rest) = field p flip x begins (bare t) (bare_fields rest)

pub record FieldFound : Type 0 where
  pub flip : Bool
  pub data_type : DataType

-- the first field of that name
abbrev pub field_named : List ℕ → Fields → Option FieldFound
field_named name no_fields = None
field_named name (field p flip x begins t rest) = if bytes_eq x name then Some (record { flip = flip; data_type = t }) else field_named name rest
