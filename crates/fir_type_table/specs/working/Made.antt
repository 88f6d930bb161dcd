-- What is made of the fields of a bundle: its members with the leaves before each, and its entry.
use Rattle.std.specs.Prelude.{◌≡◌, ℕ, ◌<◌, List, map}
use Rattle.std.specs.List.{All}
use Rattle.fir_ast.specs.Types.{DataType}
use Rattle.fir_type_table.specs.declared.kind.Kind.TheVariants as kind
use Rattle.fir_type_table.specs.declared.entry.Part.{Part}
use Rattle.fir_type_table.specs.declared.entry.Member.{Member}
use Rattle.fir_type_table.specs.declared.entry.Entry.{Entry}
use Rattle.fir_type_table.specs.working.Tables.{member_of, member_fields, part_of, part_fields}
use Rattle.fir_type_table.specs.working.Fits.{FitsAt, HasOffsets}

pub record MakesMembers (ts : List DataType) (parts : List Part) (ms : List Member) : Type 0 where
  pub fields : map (member_of ts) ms ≡ map (part_of ts) parts
  pub numbers : map (λ m. m.ty.number) ms ≡ map (λ p. p.ty.number) parts
  pub offsets : HasOffsets ts 0 0 ms

pub record MakesEntry (ts : List DataType) (parts : List Part) (e : Entry) : Type 0 where
  pub kind_is : e.kind ≡ kind.Bundle
  pub fields : member_fields ts e.members.items ≡ part_fields ts parts
  pub fits : (i : ℕ) → All (λ p. p.ty.number < i) parts → FitsAt ts i e
