-- The table has grown, and the types of these fields stand in it.
use Rattle.std.specs.Prelude.{◌≡◌, ◌<◌, List, ◌++◌, length}
use Rattle.std.specs.List.{All}
use Rattle.fir_ast.specs.Types.{DataType, Fields}
use Rattle.fir_type_table.specs.declared.entry.Part.{Part}
use Rattle.fir_type_table.specs.declared.entry.Entry.{Entry}
use Rattle.fir_type_table.specs.working.Tables.{part_fields, types_of}

pub record AddsParts (old new : List Entry) (parts : List Part) (fs : Fields) : Type 0 where
  pub more : List DataType
  pub grown : types_of new ≡ types_of old ++ more
  pub below : All (λ p. p.ty.number < length (types_of new)) parts
  pub fields : part_fields (types_of new) parts ≡ fs
