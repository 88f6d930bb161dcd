-- The number of a leaf by offsets: a field begins behind the leaves of the fields before it, and an element behind those of the elements before it.
use Rattle.std.specs.Prelude.{ℕ, ◌+◌, ◌*◌, List, [], ◌∷◌, nat_lt, if◌then◌else◌, Option, Some, None, option_map}
use Rattle.std.specs.Str.{bytes_eq}
use Rattle.fir_ast.specs.Types.{DataType, bundle, vector, Fields, no_fields, field}
use Rattle.fir_meaning.specs.LeafPaths.{LeafPath, named, element}
use Rattle.fir_meaning.specs.TypeLeaves.{leaf_count}

abbrev mutual
  pub leaf_number : DataType → LeafPath → Option ℕ
  leaf_number (bundle fs) (named x ∷ path) = field_number x fs path
  leaf_number (bundle fs) _ = None
  leaf_number (vector t n) (element i ∷ path) = if nat_lt i n then option_map (λ k. i * leaf_count t + k) (leaf_number t path) else None
  leaf_number (vector t n) _ = None
  leaf_number t [] = Some 0
  leaf_number t _ = None

  pub field_number : List ℕ → Fields → LeafPath → Option ℕ
  field_number x no_fields path = None
  field_number x (field p flip y begins t rest) path =
      if bytes_eq y x then leaf_number t path else option_map (λ k. leaf_count t + k) (field_number x rest path)
