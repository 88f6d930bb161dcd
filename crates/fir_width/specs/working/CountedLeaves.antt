-- Leaves counted each, or those of all elements of a vector as one.
use Rattle.std.specs.Prelude.{ℕ, ◌+◌, List, [], ◌∷◌}
use Rattle.fir_ast.specs.Types.{DataType}
use Rattle.fir_meaning.specs.SharedLeaves.{shared_count}
use Rattle.fir_meaning.specs.TypeLeaves.{leaf_count}
use Rattle.fir_type_table.specs.declared.entry.Member.{Member}
use Rattle.fir_type_table.specs.declared.readers.FieldFound.{FieldFound}
use Rattle.fir_type_table.specs.working.Tables.{type_at}
use Rattle.fir_width.specs.declared.counted.Counted.{Counted}
use Rattle.fir_width.specs.declared.counted.Counted.TheVariants as counted

abbrev pub count_of : Counted → DataType → ℕ
count_of counted.Each = leaf_count
count_of counted.Shared = shared_count

-- of members
abbrev pub count_all : Counted → List DataType → List Member → ℕ
count_all by ts [] = 0
count_all by ts (m ∷ ms) = count_of by (type_at ts m.ty.number) + count_all by ts ms

-- before a field that is found, and before a member
abbrev pub before_found : Counted → FieldFound → ℕ
before_found counted.Each f = f.offset
before_found counted.Shared f = f.shared_offset

abbrev pub before_member : Counted → Member → ℕ
before_member counted.Each m = m.offset
before_member counted.Shared m = m.shared_offset
