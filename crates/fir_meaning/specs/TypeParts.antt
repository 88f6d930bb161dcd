-- The part of a type at a path (FIRRTL spec, "Types"): an element of a vector has the type of all, also where there is none.
use Rattle.std.specs.Prelude.{ℕ, List, ◌∷◌, if◌then◌else◌}
use Rattle.std.specs.Str.{bytes_eq}
use Rattle.fir_ast.specs.Types.{DataType, bundle, vector, Fields, no_fields, field}
use Rattle.fir_meaning.specs.LeafPaths.{LeafPath, named, element}
use Rattle.fir_meaning.specs.FoundTypes.{no_leaves}

abbrev mutual
  pub ground_at : DataType → LeafPath → DataType
  ground_at (bundle fs) (named x ∷ path) = ground_in x fs path
  ground_at (bundle fs) _ = no_leaves
  ground_at (vector t n) (element i ∷ path) = ground_at t path
  ground_at (vector t n) _ = no_leaves
  ground_at t path = t

  pub ground_in : List ℕ → Fields → LeafPath → DataType
  ground_in x no_fields path = no_leaves
  ground_in x (field p flip y begins t rest) path = if bytes_eq y x then ground_at t path else ground_in x rest path
