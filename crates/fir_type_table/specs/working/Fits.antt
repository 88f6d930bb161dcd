-- When a table is one: its entries are made of entries before them, and their sizes are those of their types.
use Rattle.std.specs.Prelude.{◌≡◌, ℕ, suc, ◌+◌, ◌<◌, List, [], ◌∷◌, take, slice_get, Option, Some, None, if◌then◌else◌}
use Rattle.std.specs.Str.{bytes_eq}
use Rattle.std.specs.List.{All}
use Rattle.std.specs.BTreeMap.{get}
use Rattle.std.specs.Cmp.Lexicographic.{slice_cmp}
use Rattle.std.specs.Ordering.{nat_cmp}
use Rattle.fir_ast.specs.Types.{DataType, uint, sint, clock, reset, async_reset}
use Rattle.fir_meaning.specs.TypeLeaves.{leaf_count}
use Rattle.fir_meaning.specs.TypeKinds.{is_passive, is_numeric, is_sized}
use Rattle.fir_meaning.specs.SharedLeaves.{shared_count}
use Rattle.fir_type_table.specs.declared.kind.Kind.{Kind}
use Rattle.fir_type_table.specs.declared.kind.Kind.TheVariants as kind
use Rattle.fir_type_table.specs.declared.entry.Member.{Member}
use Rattle.fir_type_table.specs.declared.entry.Entry.{Entry}
use Rattle.fir_type_table.specs.working.Saturated.{saturated}
use Rattle.fir_type_table.specs.working.Tables.{type_at, types_of, made_of}

-- what every table begins with
abbrev pub grounds : List DataType
grounds = uint None ∷ sint None ∷ clock ∷ reset ∷ async_reset ∷ uint (Some 1) ∷ []

abbrev pub IsMadeBelow : ℕ → Kind → Type 0
IsMadeBelow i (kind.Vector e n) = e.number < i
IsMadeBelow i k = Unit {0}

abbrev pub IsScalar : Kind → Type 0
IsScalar kind.Bundle = ⊥
IsScalar (kind.Vector e n) = ⊥
IsScalar k = Unit {0}

-- the number of the first member of a name, behind so many
abbrev pub first_member : List ℕ → ℕ → List Member → Option ℕ
first_member name i [] = None
first_member name i (m ∷ ms) = if bytes_eq m.name name then Some i else first_member name (suc i) ms

-- members behind so many leaves
abbrev pub HasOffsets : List DataType → ℕ → ℕ → List Member → Type 0
HasOffsets ts before shared [] = Unit {0}
HasOffsets ts before shared (m ∷ ms) =
    (m.offset ≡ saturated before) × (m.shared_offset ≡ saturated shared)
    × HasOffsets ts (before + leaf_count (type_at ts m.ty.number)) (shared + shared_count (type_at ts m.ty.number)) ms

-- the entry of that number, where the table holds these types
pub record FitsAt (ts : List DataType) (i : ℕ) (e : Entry) : Type 0 where
  pub below : IsMadeBelow i e.kind
  pub members_below : All (λ m. m.ty.number < i) e.members.items
  pub leaves : e.leaves ≡ saturated (leaf_count (made_of ts e.kind e.members.items))
  pub shared : e.shared_leaves ≡ saturated (shared_count (made_of ts e.kind e.members.items))
  pub passive : e.is_passive ≡ is_passive (made_of ts e.kind e.members.items)
  pub numeric : e.is_numeric ≡ is_numeric (made_of ts e.kind e.members.items)
  pub sized : e.is_sized ≡ is_sized (made_of ts e.kind e.members.items)
  pub offsets : HasOffsets ts 0 0 e.members.items
  pub by_name : (n : List ℕ) → get (slice_cmp nat_cmp) e.by_name n ≡ first_member n 0 e.members.items

pub record IsTable (es : List Entry) : Type 0 where
  pub begins : take 6 (types_of es) ≡ grounds
  pub each : (i : ℕ) (e : Entry) → slice_get es i ≡ Some e → FitsAt (types_of es) i e
