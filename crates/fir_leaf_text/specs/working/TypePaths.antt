-- The paths of the leaves of a type, and their texts behind others (FIRRTL spec, "Types").
use Rattle.std.specs.Prelude.{◌≡◌, ℕ, ◌-◌, ◌^◌, ◌<◌, List, ◌++◌, map, flat_map, Option, Some, None, slice_get}
use Rattle.fir_ast.specs.Types.{DataType}
use Rattle.fir_meaning.specs.LeafPaths.{LeafPath, step_text}
use Rattle.fir_meaning.specs.TypeLeaves.{TypeLeaf, field_leaves, type_leaves}
use Rattle.fir_type_table.specs.declared.entry.Member.{Member}
use Rattle.fir_type_table.specs.declared.kind.TypeId.{TypeId}
use Rattle.fir_type_table.specs.working.Tables.{member_fields, type_at}

abbrev pub paths_of : List TypeLeaf → List LeafPath
paths_of ls = map (λ l. l.path) ls

abbrev pub type_paths : DataType → List LeafPath
type_paths t = paths_of (type_leaves t)

abbrev pub paths_of_members : List DataType → List Member → List LeafPath
paths_of_members ts ms = paths_of (field_leaves (member_fields ts ms))

-- their texts, each behind others
abbrev pub texts_behind : List ℕ → List LeafPath → List (List ℕ)
texts_behind before paths = map (λ path. before ++ flat_map step_text path) paths

-- the text of the path of the leaf of a number stands behind what stood there
abbrev pub WritesPath : DataType → ℕ → List ℕ → List ℕ → Type 0
WritesPath t leaf old new = (path : LeafPath) → slice_get (type_paths t) leaf ≡ Some path → new ≡ old ++ flat_map step_text path

-- the path goes on in a part of the type
pub record GoesOn (part : DataType) (inside : ℕ) (old new : List ℕ) (path : LeafPath) : Type 0 where
  pub rest : LeafPath
  pub there : slice_get (type_paths part) inside ≡ Some rest
  pub written : new ++ flat_map step_text rest ≡ old ++ flat_map step_text path

-- one step of it is written, and in which part it goes on and under which number there; or it ends
abbrev pub IsStep : List DataType → TypeId → ℕ → List ℕ → List ℕ → Option (TypeId × ℕ) → Type 0
IsStep ts id leaf old new None = WritesPath (type_at ts id.number) leaf old new
IsStep ts id leaf old new (Some (part, inside)) =
    (part.number < id.number) × (inside < 2 ^ 64 - 1)
    × ((path : LeafPath) → slice_get (type_paths (type_at ts id.number)) leaf ≡ Some path
    → GoesOn (type_at ts part.number) inside old new path)
