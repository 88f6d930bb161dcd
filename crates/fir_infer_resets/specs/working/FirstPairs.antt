-- The ground types that meet where two types do, as `pairs` and `partial_pairs` have them, with the first element of vectors for all.
use Rattle.std.specs.Prelude.{ℕ, suc, List, [], ◌∷◌, ◌++◌, Bool, true, false, Option, Some, None}
use Rattle.fir_ast.specs.Types.{DataType, uint, sint, clock, reset, async_reset, bundle, vector, Fields, no_fields, field}
use Rattle.fir_meaning.specs.LeafPaths.{LeafPath, named, element}
use Rattle.fir_meaning.specs.TypeKinds.{field_named}
use Rattle.fir_meaning.specs.Equivalence.{met}
use Rattle.fir_meaning.specs.Reaching.{field_of_type}
use Rattle.fir_infer_resets.specs.declared.graph.Kind.{Kind}
use Rattle.fir_infer_resets.specs.declared.graph.Kind.TheVariants as kind

-- two ground types at a path that both sides have
pub record Met : Type 0 where
  pub path : LeafPath
  pub one : DataType
  pub other : DataType

-- of a ground type
abbrev pub kind_of_type : DataType → Option Kind
kind_of_type (uint width) = Some kind.Unsigned
kind_of_type (sint width) = Some kind.Other
kind_of_type clock = Some kind.Other
kind_of_type reset = Some kind.Reset
kind_of_type async_reset = Some kind.Asynchronous
kind_of_type (bundle fs) = None
kind_of_type (vector t n) = None

abbrev pub scalars_met : LeafPath → DataType → DataType → Option Kind → Option Kind → List Met
scalars_met path t u (Some k) (Some l) = record { path = path; one = t; other = u } ∷ []
scalars_met path t u _ _ = []

-- where both vectors have elements
abbrev pub where_some : ℕ → ℕ → List Met → List Met
where_some (suc n) (suc m) ms = ms
where_some n m ms = []

abbrev mutual
  pub first_pairs : LeafPath → DataType → DataType → List Met
  first_pairs path (bundle fs) (bundle gs) = first_field_pairs path fs gs
  first_pairs path (vector t n) (vector u m) = where_some n m (first_pairs (path ++ element 0 ∷ []) t u)
  first_pairs path t u = scalars_met path t u (kind_of_type t) (kind_of_type u)

  pub first_field_pairs : LeafPath → Fields → Fields → List Met
  first_field_pairs path (field p f x b t fs) (field q g y c u gs) = first_pairs (path ++ named x ∷ []) t u ++ first_field_pairs path fs gs
  first_field_pairs path _ _ = []

abbrev mutual
  pub first_partial_pairs : LeafPath → DataType → DataType → List Met
  first_partial_pairs path (bundle fs) (bundle gs) = first_partial_fields path fs gs
  first_partial_pairs path (vector t n) (vector u m) = where_some n m (first_partial_pairs (path ++ element 0 ∷ []) t u)
  first_partial_pairs path t u = scalars_met path t u (kind_of_type t) (kind_of_type u)

  pub first_partial_fields : LeafPath → Fields → Fields → List Met
  first_partial_fields path no_fields gs = []
  first_partial_fields path (field p f x b t fs) gs =
      met [] (λ g. first_partial_pairs (path ++ named x ∷ []) t g.data_type) (field_named x gs) ++ first_partial_fields path fs gs

-- of `<-`, and of `<=`
abbrev pub met_pairs : Bool → LeafPath → DataType → DataType → List Met
met_pairs true path t u = first_partial_pairs path t u
met_pairs false path t u = first_pairs path t u

-- each field with that of its name of a type
abbrev pub partial_fields_met : LeafPath → Fields → DataType → List Met
partial_fields_met path no_fields u = []
partial_fields_met path (field p f x b t fs) u =
    met [] (λ g. first_partial_pairs (path ++ named x ∷ []) t g.data_type) (field_of_type x u) ++ partial_fields_met path fs u
