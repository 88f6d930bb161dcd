-- A field that the code finds, as a field of the type, behind the leaves before it.
use Rattle.std.specs.Prelude.{◌≡◌, ℕ, ◌<◌, List, Option, Some, None}
use Rattle.fir_ast.specs.Types.{DataType}
use Rattle.fir_meaning.specs.TypeKinds.{FieldFound}
use Rattle.fir_meaning.specs.Reaching.{field_of_type}
use Rattle.fir_type_table.specs.declared.entry.Member.{Member}
use Rattle.fir_type_table.specs.declared.entry.Entry.{Entry}
use Rattle.fir_type_table.specs.declared.readers.FieldFound.{FieldFound as FoundByCode}
use Rattle.fir_type_table.specs.working.Saturated.{saturated}
use Rattle.fir_meaning.specs.working.FieldSizes.{leaves_before, shared_before}
use Rattle.fir_type_table.specs.working.Tables.{type_at, types_of}

abbrev pub found_of : List DataType → FoundByCode → FieldFound
found_of ts f = record { flip = f.flip; data_type = type_at ts f.ty.number }

pub record IsMemberNamed (ts : List DataType) (i : ℕ) (name : List ℕ) (m : Member) : Type 0 where
  pub found : field_of_type name (type_at ts i) ≡ Some (record { flip = m.flip; data_type = type_at ts m.ty.number })
  pub offset : m.offset ≡ saturated (leaves_before name (type_at ts i))
  pub shared_offset : m.shared_offset ≡ saturated (shared_before name (type_at ts i))
  pub below : m.ty.number < i

pub record HasNoField (ts : List DataType) (i : ℕ) (name : List ℕ) : Type 0 where
  pub none : field_of_type name (type_at ts i) ≡ None

abbrev pub IsFieldFound : List Entry → ℕ → List ℕ → Option Member → Type 0
IsFieldFound es i name None = HasNoField (types_of es) i name
IsFieldFound es i name (Some m) = IsMemberNamed (types_of es) i name m
