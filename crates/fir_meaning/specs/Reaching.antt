-- What a reference reaches, part by part, with E12 and E16 (FIRRTL spec, "References", "Sub-fields", "Sub-indices", "Sub-accesses", "Flow").
-- It is walked from its name outward, with the type, the flow and the path that are reached. Its own faults stand at its name.
use Rattle.std.specs.Prelude.{ℕ, List, [], ◌∷◌, ◌++◌, nat_lt, if◌then◌else◌, Option, Some, None, option_map, Result, Ok, Err}
use Rattle.fir_ast.specs.declared.place.Place.{Place}
use Rattle.fir_ast.specs.Types.{DataType, bundle, vector}
use Rattle.fir_ast.specs.Faults.{Fault}
use Rattle.fir_meaning.specs.LeafPaths.{LeafPath, named, element}
use Rattle.fir_meaning.specs.TypeKinds.{FieldFound, field_named}
use Rattle.fir_meaning.specs.Flows.{Flow, flow_under}
use Rattle.fir_meaning.specs.KindFaults.{wrong_kinds, no_field, out_of_range}
use Rattle.fir_meaning.specs.Checked.{Checked}
use Rattle.fir_meaning.specs.TypedScopes.{Known, TypedScope, known}

-- the path has the first element for a dynamic index; one into a vector of length 0 leads to no path
pub record Reached : Type 0 where
  pub data_type : DataType
  pub flow : Flow
  pub path : Option LeafPath

abbrev pub further : Reached → LeafPath → Option LeafPath
further r steps = option_map (λ path. path ++ steps) r.path

-- a field of what is reached, an element, and an element that an index picks
abbrev pub at_field : List ℕ → Reached → FieldFound → Reached
at_field x r f = record { data_type = f.data_type; flow = flow_under f.flip r.flow; path = further r (named x ∷ []) }

abbrev pub at_element : ℕ → Reached → DataType → Reached
at_element i r t = record { data_type = t; flow = r.flow; path = further r (element i ∷ []) }

abbrev pub at_any : Reached → DataType × ℕ → Reached
at_any r v = record { data_type = v.0; flow = r.flow; path = if nat_lt 0 v.1 then further r (element 0 ∷ []) else None }

abbrev pub reached_field : Place → List ℕ → Reached → Option FieldFound → Result Reached Fault
reached_field p x r None = Err (no_field p x)
reached_field p x r (Some f) = Ok (at_field x r f)

abbrev pub field_of_type : List ℕ → DataType → Option FieldFound
field_of_type x (bundle fs) = field_named x fs
field_of_type x _ = None

abbrev pub to_field : Place → List ℕ → Reached → Result Reached Fault
to_field p x r = reached_field p x r (field_of_type x r.data_type)

-- the element type of a vector, and its length
abbrev pub vector_of_type : DataType → Option (DataType × ℕ)
vector_of_type (vector t n) = Some (t, n)
vector_of_type _ = None

abbrev pub element_at : Place → ℕ → Reached → Option (DataType × ℕ) → Result Reached Fault
element_at p i r None = Err (wrong_kinds p (r.data_type ∷ []))
element_at p i r (Some v) = if nat_lt i v.1 then Ok (at_element i r v.0) else Err (out_of_range p i v.1)

abbrev pub to_index : Place → ℕ → Reached → Result Reached Fault
to_index p i r = element_at p i r (vector_of_type r.data_type)

abbrev pub any_element : Place → Reached → Option (DataType × ℕ) → Result Reached Fault
any_element p r None = Err (wrong_kinds p (r.data_type ∷ []))
any_element p r (Some v) = Ok (at_any r v)

abbrev pub to_any : Place → Reached → Result Reached Fault
to_any p r = any_element p r (vector_of_type r.data_type)

abbrev pub known_reached : Option Known → Option Reached
known_reached None = None
known_reached (Some k) = option_map (λ t. record { data_type = t; flow = k.flow; path = Some (named k.name ∷ []) }) k.data_type

abbrev pub root : TypedScope → List ℕ → Checked Reached
root scope n = record { has = known_reached (known scope n); shows = [] }
