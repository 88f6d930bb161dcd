-- The types that a table holds.
-- An entry says what its type is made of: of the types before it in the table.
use Rattle.std.specs.Prelude.{◌≡◌, ℕ, List, [], ◌∷◌, ◌++◌, map, Bool, true, false, slice_get, Option, Some, None, unwrap_or}
use Rattle.fir_ast.specs.Types.{DataType, uint, sint, clock, reset, async_reset, bundle, vector, Fields, field}
use Rattle.fir_ast.specs.View.{fields_of}
use Rattle.fir_meaning.specs.TypeKinds.{bare, bare_fields}
use Rattle.fir_type_table.specs.declared.kind.Kind.{Kind}
use Rattle.fir_type_table.specs.declared.kind.Kind.TheVariants as kind
use Rattle.fir_type_table.specs.declared.entry.Member.{Member}
use Rattle.fir_type_table.specs.declared.entry.Part.{Part}
use Rattle.fir_type_table.specs.declared.entry.Entry.{Entry}

-- under a number that the table does not have it counts as a UInt
abbrev pub type_at : List DataType → ℕ → DataType
type_at ts id = unwrap_or (slice_get ts id) (uint None)

abbrev pub member_of : List DataType → Member → Fields → Fields
member_of ts m rest = field m.place m.flip m.name m.type_place (type_at ts m.ty.number) rest

abbrev pub member_fields : List DataType → List Member → Fields
member_fields ts ms = fields_of (map (member_of ts) ms)

-- and of a bundle that is to be made
abbrev pub part_of : List DataType → Part → Fields → Fields
part_of ts p rest = field p.place p.flip p.name p.type_place (type_at ts p.ty.number) rest

abbrev pub part_fields : List DataType → List Part → Fields
part_fields ts ps = fields_of (map (part_of ts) ps)

abbrev pub made_of : List DataType → Kind → List Member → DataType
made_of ts (kind.UInt width) ms = uint width
made_of ts (kind.SInt width) ms = sint width
made_of ts kind.Clock ms = clock
made_of ts kind.Reset ms = reset
made_of ts kind.AsyncReset ms = async_reset
made_of ts kind.Bundle ms = bundle (member_fields ts ms)
made_of ts (kind.Vector e n) ms = vector (type_at ts e.number) n

-- those of the entries behind so many types
abbrev pub types_behind : List DataType → List Entry → List DataType
types_behind ts [] = ts
types_behind ts (e ∷ es) = types_behind (ts ++ made_of ts e.kind e.members.items ∷ []) es

abbrev pub types_of : List Entry → List DataType
types_of es = types_behind [] es

-- the table has grown, and holds the type under the number
pub record Adds (old new : List Entry) (id : ℕ) (t : DataType) : Type 0 where
  pub more : List DataType
  pub grown : types_of new ≡ types_of old ++ more
  pub held : slice_get (types_of new) id ≡ Some t

-- the members of the entry of a number
abbrev pub members_of : Option Entry → List Member
members_of None = []
members_of (Some e) = e.members.items

abbrev pub members_at : List Entry → ℕ → List Member
members_at es id = members_of (slice_get es id)

-- a type as a text shows it: bare of its widths, or with them
abbrev pub shown : Bool → DataType → DataType
shown true t = bare t
shown false t = t

abbrev pub shown_fields : Bool → Fields → Fields
shown_fields true fs = bare_fields fs
shown_fields false fs = fs
