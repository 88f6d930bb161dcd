-- The field of a bundle in which a leaf lies (FIRRTL spec, "Types").
use Rattle.std.specs.Prelude.{◌≡◌, ℕ, ◌+◌, ◌-◌, ◌^◌, ◌<◌, ◌≤◌, List, ◌∷◌, ◌++◌, Option, Some, None}
use Rattle.fir_ast.specs.Types.{DataType}
use Rattle.fir_meaning.specs.TypeLeaves.{field_count, leaf_count}
use Rattle.fir_type_table.specs.declared.entry.Member.{Member}
use Rattle.fir_type_table.specs.declared.kind.TypeId.{TypeId}
use Rattle.fir_type_table.specs.working.Saturated.{saturated}
use Rattle.fir_type_table.specs.working.Tables.{member_fields, type_at}

-- the leaf of a number lies in a field of that name and that type, and has a number there
pub record LiesIn (ts : List DataType) (ms : List Member) (leaf : ℕ) (name : List ℕ) (id : TypeId) (inside : ℕ) : Type 0 where
  pub before : List Member
  pub member : Member
  pub rest : List Member
  pub split : ms ≡ before ++ member ∷ rest
  pub is_named : member.name ≡ name
  pub is_typed : type_at ts member.ty.number ≡ type_at ts id.number
  pub counted : field_count (member_fields ts before) + inside ≡ leaf
  pub within : inside < leaf_count (type_at ts member.ty.number)

-- or there is no such leaf
abbrev pub IsFieldOfLeaf : List DataType → List Member → ℕ → Option (List ℕ × TypeId × ℕ) → Type 0
IsFieldOfLeaf ts ms leaf None = field_count (member_fields ts ms) ≤ leaf
IsFieldOfLeaf ts ms leaf (Some (name, id, inside)) = LiesIn ts ms leaf name id inside

-- the number behind so many more leaves
pub record IsBehind (number count next : ℕ) : Type 0 where
  pub small : next < 2 ^ 64 - 1
  pub is : (leaves : ℕ) → count ≡ saturated leaves → next ≡ number + leaves
