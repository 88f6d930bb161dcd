-- What resets are inferred along: leaves, each with the indices of its elements, and expressions (FIRRTL spec, "Reset Inference").
use Rattle.std.specs.Prelude.{ℕ, zero, suc, List, [], ◌∷◌, ◌++◌, Bool, true, false, Option, Some, None}
use Rattle.fir_ast.specs.declared.place.Place.{Place}
use Rattle.fir_ast.specs.Types.{DataType, uint, reset}
use Rattle.fir_ast.specs.Expressions.{Parts, no_parts, subfield, subindex, subaccess}
use Rattle.fir_meaning.specs.LeafPaths.{LeafPath, named, element}
use Rattle.fir_meaning.specs.TypeKinds.{FieldFound}
use Rattle.fir_meaning.specs.Components.{Declaration}
use Rattle.fir_meaning.specs.Reaching.{field_of_type, vector_of_type}

-- a leaf of the module of that number, or an expression that is no leaf, by its place
pub data ResetItem : Type 0 where
  leaf_item : ℕ → LeafPath → ResetItem
  value_item : Place → ResetItem

-- with its ground type, and where a fault of it stands: at its declaration
pub record End : Type 0 where
  pub item : ResetItem
  pub ground_type : DataType
  pub place : Place

abbrev pub type_of_field : Option FieldFound → DataType
type_of_field None = uint None
type_of_field (Some f) = f.data_type

abbrev pub type_of_element : Option (DataType × ℕ) → DataType
type_of_element None = uint None
type_of_element (Some v) = v.0

abbrev pub length_of_vector : Option (DataType × ℕ) → ℕ
length_of_vector None = 0
length_of_vector (Some v) = v.1

-- for each of so many elements, from a number on
abbrev pub of_elements : {A : Type 0} → ℕ → ℕ → (ℕ → List A) → List A
of_elements i zero f = []
of_elements i (suc n) f = f i ++ of_elements (suc i) n f

-- the paths to which parts lead from a path: a dynamic index may pick each element
abbrev pub paths_along : LeafPath → DataType → Parts → List LeafPath
paths_along path t no_parts = path ∷ []
paths_along path t (subfield first q x rest) = paths_along (path ++ named x ∷ []) (type_of_field (field_of_type x t)) rest
paths_along path t (subindex first q i rest) = paths_along (path ++ element i ∷ []) (type_of_element (vector_of_type t)) rest
paths_along path t (subaccess first e rest) =
    of_elements 0 (length_of_vector (vector_of_type t)) (λ i. paths_along (path ++ element i ∷ []) (type_of_element (vector_of_type t)) rest)

abbrev pub has_access : Parts → Bool
has_access no_parts = false
has_access (subfield first q x rest) = has_access rest
has_access (subindex first q i rest) = has_access rest
has_access (subaccess first e rest) = true

abbrev pub is_reset : DataType → Bool
is_reset reset = true
is_reset t = false

-- where a name is declared
abbrev pub declared_at : Place → Option Declaration → Place
declared_at p None = p
declared_at p (Some d) = d.named.place

abbrev pub value_end : Place → DataType → End
value_end p t = record { item = value_item p; ground_type = t; place = p }

-- the leaf of a declaration in the module of that number
abbrev pub leaf_end : ℕ → Place → LeafPath → DataType → End
leaf_end number p path t = record { item = leaf_item number path; ground_type = t; place = p }
