-- What a reference names under given values, by paths (FIRRTL spec, "References", "Sub-accesses").
-- Behind dynamic indices it is the leaves of one element, or of none where an index is out of range, a choice of this project.
use Rattle.std.specs.Prelude.{ℕ, List, [], ◌∷◌, ◌++◌, nat_lt, if◌then◌else◌, Option, Some, None, option_map}
use Rattle.fir_ast.specs.Types.{DataType}
use Rattle.fir_meaning.specs.LeafPaths.{LeafPath, Step, named, element}
use Rattle.fir_meaning.specs.TypeKinds.{FieldFound}
use Rattle.fir_meaning.specs.TypedScopes.{TypedScope, known}
use Rattle.fir_meaning.specs.Reaching.{field_of_type, vector_of_type}
use Rattle.fir_meaning.specs.ResetJoins.{type_of_known}
use Rattle.fir_meaning.specs.FoundTypes.{no_leaves}

-- the path that the indices pick, if they are in range; that of the first elements, which has the type of all, if there are any; and the type
pub record Aim : Type 0 where
  pub at : Option LeafPath
  pub first : Option LeafPath
  pub data_type : DataType

abbrev pub at_nothing : Aim
at_nothing = record { at = None; first = None; data_type = no_leaves }

abbrev pub one_step_further : Option LeafPath → Step → Option LeafPath
one_step_further path s = option_map (λ p. p ++ s ∷ []) path

abbrev pub whole_aim : List ℕ → Option DataType → Aim
whole_aim name None = at_nothing
whole_aim name (Some t) = record { at = Some (named name ∷ []); first = Some (named name ∷ []); data_type = t }

abbrev pub named_aim : TypedScope → List ℕ → Aim
named_aim scope name = whole_aim name (type_of_known (known scope name))

abbrev pub step_aim : Step → DataType → Aim → Aim
step_aim s t a = record { at = one_step_further a.at s; first = one_step_further a.first s; data_type = t }

abbrev pub field_aim_at : List ℕ → Aim → Option FieldFound → Aim
field_aim_at x a None = at_nothing
field_aim_at x a (Some f) = step_aim (named x) f.data_type a

abbrev pub field_aim : List ℕ → Aim → Aim
field_aim x a = field_aim_at x a (field_of_type x a.data_type)

abbrev pub element_aim_at : ℕ → Aim → Option (DataType × ℕ) → Aim
element_aim_at i a None = at_nothing
element_aim_at i a (Some v) = step_aim (element i) v.0 a

abbrev pub element_aim : ℕ → Aim → Aim
element_aim i a = element_aim_at i a (vector_of_type a.data_type)

-- the element of an index that has this value
abbrev pub picked_aim_at : ℕ → Aim → Option (DataType × ℕ) → Aim
picked_aim_at i a None = at_nothing
picked_aim_at i a (Some v) = record {
  at = if nat_lt i v.1 then one_step_further a.at (element i) else None;
  first = if nat_lt 0 v.1 then one_step_further a.first (element 0) else None;
  data_type = v.0;
}

abbrev pub picked_aim : ℕ → Aim → Aim
picked_aim i a = picked_aim_at i a (vector_of_type a.data_type)
