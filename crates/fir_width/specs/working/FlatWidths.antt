-- The widths of the leaves of a sized type one after another: all elements of a vector share theirs, whatever its length, also 0.
use Rattle.std.specs.Prelude.{List, [], ◌∷◌, ◌++◌}
use Rattle.fir_meaning.specs.WidthExpressions.{Width, greater, guarded}
use Rattle.fir_meaning.specs.SizedTypes.{Sized, scalar, sized_bundle, sized_vector, SizedFields, no_sized_fields, sized_field}

abbrev mutual
  pub flat : Sized → List Width
  flat (scalar s w) = w ∷ []
  flat (sized_bundle fs) = flat_fields fs
  flat (sized_vector t n) = flat t

  pub flat_fields : SizedFields → List Width
  flat_fields no_sized_fields = []
  flat_fields (sized_field p flip x begins t rest) = flat t ++ flat_fields rest

-- the greater of each two
abbrev pub greater_each : List Width → List Width → List Width
greater_each (v ∷ vs) (w ∷ ws) = greater v w ∷ greater_each vs ws
greater_each vs ws = []

-- each over where the condition is over
abbrev pub guarded_each : Width → List Width → List Width
guarded_each c [] = []
guarded_each c (w ∷ ws) = guarded c w ∷ guarded_each c ws
