-- The leaves of a sized type, in its order (FIRRTL spec, "Types", "Flow"): of a vector those of its first element, which stand for all elements.
use Rattle.std.specs.Prelude.{List, [], ◌∷◌, ◌++◌, map, ◌==◌, Bool, false, if◌then◌else◌}
use Rattle.fir_meaning.specs.LeafPaths.{Step, named, element, LeafPath}
use Rattle.fir_meaning.specs.TypeLeaves.{turned}
use Rattle.fir_meaning.specs.WidthExpressions.{Width}
use Rattle.fir_meaning.specs.SizedTypes.{Sized, scalar, sized_bundle, sized_vector, SizedFields, no_sized_fields, sized_field}

pub record SizedLeaf : Type 0 where
  pub path : LeafPath
  pub flip : Bool
  pub width : Width

abbrev pub sized_under : Bool → Step → SizedLeaf → SizedLeaf
sized_under flip s l = record { path = s ∷ l.path; flip = turned flip l.flip; width = l.width }

abbrev mutual
  pub sized_leaves : Sized → List SizedLeaf
  sized_leaves (scalar s w) = record { path = []; flip = false; width = w } ∷ []
  sized_leaves (sized_bundle fs) = sized_field_leaves fs
  sized_leaves (sized_vector t n) = if n == 0 then [] else map (sized_under false (element 0)) (sized_leaves t)

  pub sized_field_leaves : SizedFields → List SizedLeaf
  sized_field_leaves no_sized_fields = []
  sized_field_leaves (sized_field p flip x begins t rest) = map (sized_under flip (named x)) (sized_leaves t) ++ sized_field_leaves rest
