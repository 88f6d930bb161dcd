-- How two types meet: as bundles, as vectors with elements, as ground types, or not at all.
use Rattle.std.specs.Prelude.{◌≡◌, ℕ, suc, ◌<◌, List, [], ◌∷◌, ◌++◌, Bool, Some}
use Rattle.fir_ast.specs.Types.{DataType, bundle, vector}
use Rattle.fir_meaning.specs.LeafPaths.{LeafPath, element}
use Rattle.fir_type_table.specs.declared.entry.Entry.{Entry}
use Rattle.fir_type_table.specs.working.Tables.{member_fields, members_at, shown_fields, types_of}
use Rattle.fir_types.specs.declared.found.Found.{Found}
use Rattle.fir_types.specs.declared.found.Found.TheVariants as found
use Rattle.fir_types.specs.working.Seen.{found_type}
use Rattle.fir_infer_resets.specs.declared.shapes.Form.{Form}
use Rattle.fir_infer_resets.specs.declared.shapes.Form.TheVariants as form
use Rattle.fir_infer_resets.specs.declared.shapes.Shapes.{Shapes}
use Rattle.fir_infer_resets.specs.declared.shapes.Shapes.TheVariants as shapes
use Rattle.fir_infer_resets.specs.working.FirstPairs.{Met, kind_of_type, where_some, met_pairs}

-- how deep the parts of a type may go
abbrev pub rank : Found → ℕ
rank (found.Type id is_bare) = suc id.number
rank f = 0

abbrev pub fields_shown : List Entry → Bool → ℕ → DataType
fields_shown es is_bare id = bundle (shown_fields is_bare (member_fields (types_of es) (members_at es id)))

-- what a type is
abbrev pub IsForm : List Entry → Found → Form → Type 0
IsForm es f (form.Bundle a x) = (found_type (types_of es) f ≡ fields_shown es x a.number) × (f ≡ found.Type a x)
IsForm es f (form.Vector s n) = (found_type (types_of es) f ≡ vector (found_type (types_of es) s) n) × (rank s < rank f)
IsForm es f (form.Scalar k) = kind_of_type (found_type (types_of es) f) ≡ Some k

abbrev pub AreElementShapes : Found → ℕ → Found → ℕ → Shapes → Type 0
AreElementShapes s n t m (shapes.Vectors u v) = (u ≡ s) × (v ≡ t) × ((ms : List Met) → where_some n m ms ≡ ms)
AreElementShapes s n t m shapes.Apart = (ms : List Met) → where_some n m ms ≡ []
AreElementShapes s n t m _ = ⊥

abbrev pub AreShapes : List Entry → Found → Found → Shapes → Type 0
AreShapes es one other (shapes.Bundles a x b y) =
    (found_type (types_of es) one ≡ fields_shown es x a.number) × (found_type (types_of es) other ≡ fields_shown es y b.number)
    × (found_type (types_of es) (found.Type b y) ≡ fields_shown es y b.number) × (suc a.number ≡ rank one)
AreShapes es one other (shapes.Vectors s t) =
    ((partly : Bool) (path : LeafPath) → met_pairs partly path (found_type (types_of es) one) (found_type (types_of es) other)
    ≡ met_pairs partly (path ++ element 0 ∷ []) (found_type (types_of es) s) (found_type (types_of es) t))
    × (rank s < rank one)
AreShapes es one other (shapes.Scalars k l) =
    (kind_of_type (found_type (types_of es) one) ≡ Some k) × (kind_of_type (found_type (types_of es) other) ≡ Some l)
AreShapes es one other shapes.Apart =
    (partly : Bool) (path : LeafPath) → met_pairs partly path (found_type (types_of es) one) (found_type (types_of es) other) ≡ []
