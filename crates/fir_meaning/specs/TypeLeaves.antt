-- The leaves of a type: its ground parts in order, each with its path, its orientation and its ground type (FIRRTL spec, "Types", "Flow").
-- The number of a leaf is its place in this list.
use Rattle.std.specs.Prelude.{ℕ, zero, suc, ◌+◌, ◌*◌, List, [], ◌∷◌, ◌++◌, map, Bool, true, false, not}
use Rattle.fir_ast.specs.Types.{DataType, bundle, vector, Fields, no_fields, field}
use Rattle.fir_meaning.specs.LeafPaths.{Step, named, element, LeafPath}

-- an orientation behind a field that is flipped or not
abbrev pub turned : Bool → Bool → Bool
turned true flip = not flip
turned false flip = flip

pub record TypeLeaf : Type 0 where
  pub path : LeafPath
  pub flip : Bool
  pub ground_type : DataType

abbrev pub under : Bool → Step → TypeLeaf → TypeLeaf
under flip s l = record { path = s ∷ l.path; flip = turned flip l.flip; ground_type = l.ground_type }

-- those of each of so many elements, from a number on
abbrev pub element_leaves : ℕ → ℕ → List TypeLeaf → List TypeLeaf
element_leaves i zero ls = []
element_leaves i (suc n) ls = map (under false (element i)) ls ++ element_leaves (i + 1) n ls

abbrev pub ground_leaf : DataType → List TypeLeaf
ground_leaf t = record { path = []; flip = false; ground_type = t } ∷ []

abbrev mutual
  pub type_leaves : DataType → List TypeLeaf
  type_leaves (bundle fs) = field_leaves fs
  type_leaves (vector t n) = element_leaves 0 n (type_leaves t)
  type_leaves t = ground_leaf t

  pub field_leaves : Fields → List TypeLeaf
  field_leaves no_fields = []
  field_leaves (field p flip x begins t rest) = map (under flip (named x)) (type_leaves t) ++ field_leaves rest

-- how many there are
abbrev mutual
  pub leaf_count : DataType → ℕ
  leaf_count (bundle fs) = field_count fs
  leaf_count (vector t n) = n * leaf_count t
  leaf_count t = 1

  pub field_count : Fields → ℕ
  field_count no_fields = 0
  field_count (field p flip x begins t rest) = leaf_count t + field_count rest
