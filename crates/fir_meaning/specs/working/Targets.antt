-- The leaves that a reference names, walked from its name outward (FIRRTL spec, "References", "Sub-fields", "Sub-indices", "Sub-accesses").
use Rattle.std.specs.Prelude.{ℕ, ◌+◌, ◌*◌, nat_lt, List, [], ◌∷◌, map, if◌then◌else◌, Option, Some, None, option_map}
use Rattle.std.specs.Str.{bytes_eq}
use Rattle.fir_ast.specs.declared.place.Place.{Place}
use Rattle.fir_ast.specs.Types.{DataType}
use Rattle.fir_meaning.specs.TypeKinds.{FieldFound}
use Rattle.fir_meaning.specs.TypeLeaves.{leaf_count}
use Rattle.fir_meaning.specs.TypedScopes.{TypedScope, known}
use Rattle.fir_meaning.specs.Reaching.{field_of_type, vector_of_type}
use Rattle.fir_meaning.specs.ResetJoins.{type_of_known}
use Rattle.fir_meaning.specs.Costs.{leaves_where, sum_of}
use Rattle.fir_meaning.specs.working.FieldSizes.{leaves_before}
use Rattle.fir_meaning.specs.working.Terms.{Term, Picks, no_picks, pick}
use Rattle.fir_meaning.specs.FoundTypes.{no_leaves}

-- the number of the first leaf, where each index picks the first element; none behind an index into a vector without elements. What names nothing is a
-- bundle without fields
pub record Target : Type 0 where
  pub base : Option ℕ
  pub picks : Picks
  pub data_type : DataType

abbrev pub nowhere : Target
nowhere = record { base = None; picks = no_picks; data_type = no_leaves }

-- how many leaves are declared before the first declaration of a name
abbrev pub leaves_ahead : TypedScope → List ℕ → ℕ
leaves_ahead [] name = 0
leaves_ahead (k ∷ ks) name = if bytes_eq k.name name then 0 else leaves_where k.data_type + leaves_ahead ks name

-- how many leaves are declared
abbrev pub leaves_so_far : TypedScope → ℕ
leaves_so_far scope = sum_of (map (λ k. leaves_where k.data_type) scope)

abbrev pub further : ℕ → Option ℕ → Option ℕ
further n = option_map (λ b. b + n)

abbrev pub whole_target : ℕ → Option DataType → Target
whole_target first None = nowhere
whole_target first (Some t) = record { base = Some first; picks = no_picks; data_type = t }

abbrev pub named_target : TypedScope → List ℕ → Target
named_target scope name = whole_target (leaves_ahead scope name) (type_of_known (known scope name))

abbrev pub field_target_at : List ℕ → Target → Option FieldFound → Target
field_target_at x r None = nowhere
field_target_at x r (Some f) = record { base = further (leaves_before x r.data_type) r.base; picks = r.picks; data_type = f.data_type }

abbrev pub field_target : List ℕ → Target → Target
field_target x r = field_target_at x r (field_of_type x r.data_type)

abbrev pub element_target_at : ℕ → Target → Option (DataType × ℕ) → Target
element_target_at i r None = nowhere
element_target_at i r (Some v) = record { base = further (i * leaf_count v.0) r.base; picks = r.picks; data_type = v.0 }

abbrev pub element_target : ℕ → Target → Target
element_target i r = element_target_at i r (vector_of_type r.data_type)

-- how many leaves apart elements are; where there are none, that tells nothing
abbrev pub stride_from : Option ℕ → ℕ → ℕ
stride_from None each = 0
stride_from (Some b) each = each

abbrev pub picked_from : Place → Term → Option ℕ → Picks → DataType × ℕ → Target
picked_from p index base ps v = record { base = base; picks = pick ps p index v.1 (stride_from base (leaf_count v.0)); data_type = v.0 }

-- where an index picks, which stands at the place
abbrev pub picked_target_at : Place → Term → Target → Option (DataType × ℕ) → Target
picked_target_at p index r None = nowhere
picked_target_at p index r (Some v) = picked_from p index (if nat_lt 0 v.1 then r.base else None) r.picks v

abbrev pub picked_target : Place → Term → Target → Target
picked_target p index r = picked_target_at p index r (vector_of_type r.data_type)
