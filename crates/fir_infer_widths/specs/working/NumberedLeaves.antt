-- The leaves of a type with their numbers, in its order: of a vector those of its first element, which stand for all elements. Each leaf takes a number, also
-- where a vector has no elements, and so no leaves.
use Rattle.std.specs.Prelude.{ℕ, ◌+◌, List, [], ◌∷◌, ◌++◌, map, Bool, false, ◌==◌, if◌then◌else◌}
use Rattle.fir_ast.specs.Types.{DataType, bundle, vector, Fields, no_fields, field}
use Rattle.fir_meaning.specs.LeafPaths.{Step, named, element, LeafPath}
use Rattle.fir_meaning.specs.TypeLeaves.{turned}
use Rattle.fir_meaning.specs.SharedLeaves.{shared_count}

pub record NumberedLeaf : Type 0 where
  pub path : LeafPath
  pub flip : Bool
  pub number : ℕ
  pub ground_type : DataType

abbrev pub numbered_under : Bool → Step → NumberedLeaf → NumberedLeaf
numbered_under flip s l = record { path = s ∷ l.path; flip = turned flip l.flip; number = l.number; ground_type = l.ground_type }

abbrev mutual
  pub numbered_leaves : ℕ → DataType → List NumberedLeaf
  numbered_leaves first (bundle fs) = numbered_field_leaves first fs
  numbered_leaves first (vector t n) = if n == 0 then [] else map (numbered_under false (element 0)) (numbered_leaves first t)
  numbered_leaves first t = record { path = []; flip = false; number = first; ground_type = t } ∷ []

  pub numbered_field_leaves : ℕ → Fields → List NumberedLeaf
  numbered_field_leaves first no_fields = []
  numbered_field_leaves first (field p flip x begins t rest) =
      map (numbered_under flip (named x)) (numbered_leaves first t) ++ numbered_field_leaves (first + shared_count t) rest
