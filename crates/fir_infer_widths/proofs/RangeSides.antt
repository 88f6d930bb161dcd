-- The leaves of what a reference names stand behind the first number of its declaration, by the offset that the range of the reference has.
use Rattle.std.proofs.Common.{◌≡◌, ℕ, ◌+◌, ◌≤◌, ◌<◌, ◌^◌, List, [], ◌∷◌, length, Bool, true, false, if◌then◌else◌, Option, Some, None, refl, sym, ap, ◌∙◌, subst, arith}
use Rattle.std.specs.Prelude.{slice_get}
use Rattle.std.specs.Str.{bytes_eq}
use Rattle.std.proofs.lemmas.Option.{slice_get_within}
use Rattle.fir_ast.specs.Types.{DataType, uint, sint, clock, reset, async_reset, bundle, vector, Fields, no_fields, field}
use Rattle.fir_ast.specs.Expressions.{Parts, no_parts, subfield, subindex, subaccess}
use Rattle.fir_meaning.specs.Reaching.{Reached, at_any, at_element, at_field, field_of_type, vector_of_type}
use Rattle.fir_meaning.specs.TypeKinds.{FieldFound, bare, bare_fields, field_named}
use Rattle.fir_meaning.specs.TypedScopes.{TypedScope}
use Rattle.fir_meaning.specs.SharedLeaves.{shared_count}
use Rattle.fir_meaning.specs.working.WellTyped.{Leads}
use Rattle.fir_meaning.specs.WidthExpressions.{Width}
use Rattle.fir_meaning.specs.SizedTypes.{Sized, unsigned, signed, clock_scalar, reset_scalar, async_scalar, scalar, sized_bundle, sized_vector, SizedFields, no_sized_fields, sized_field, bare_type, bare_type_fields, element_in, fields_in, sized_found, sized_named}
use Rattle.fir_meaning.specs.SizedScopes.{sized_part}
use Rattle.fir_meaning.proofs.SizedShapes.{element_bare, field_bare}
use Rattle.fir_type_table.specs.working.Saturated.{saturated}
use Rattle.fir_meaning.specs.working.FieldSizes.{shared_before, shared_before_field}
use Rattle.fir_types.specs.working.Notes.{LeafRange, element_range, field_range, picked_range, range_behind}
use Rattle.fir_types.specs.working.Seen.{found_type}
use Rattle.fir_width.specs.declared.side.Side.{Side}
use Rattle.fir_width.specs.working.FlatWidths.{flat, flat_fields}
use Rattle.fir_width.specs.working.StandingWidths.{Stands}
use Rattle.fir_width.specs.working.Sides.{IsSide}
use Rattle.fir_width.proofs.FlatShapes.{flat_counted}
use Rattle.fir_width.proofs.StandingWidths.{stands_left, stands_right, stands_within}

-- of the shape of a type, with leaves from a number on
pub record StandsAs (meant : List Width) (from : ℕ) (s : Sized) (t : DataType) : Type 0 where
  pub shape : bare_type s ≡ bare t
  pub stands : Stands meant from (flat s)

-- the elements of a vector
flat_element : (s : Sized) (t : DataType) (n : ℕ) → bare_type s ≡ vector t n → flat (element_in s) ≡ flat s
flat_element (scalar unsigned w) t n e = cc
flat_element (scalar signed w) t n e = cc
flat_element (scalar clock_scalar w) t n e = cc
flat_element (scalar reset_scalar w) t n e = cc
flat_element (scalar async_scalar w) t n e = cc
flat_element (sized_bundle fs) t n e = cc
flat_element (sized_vector u m) t n e = refl

element_stands : (meant : List Width) (from : ℕ) (s : Sized) (t : DataType) (v : DataType × ℕ) → StandsAs meant from s t → vector_of_type t ≡ Some v
    → StandsAs meant from (element_in s) v.0
element_stands meant from s (vector t n) v h e = record {
  shape = element_bare s (vector t n) v h.shape e;
  stands = subst (Stands meant from) (sym (flat_element s (bare t) n h.shape)) h.stands;
}
element_stands meant from s (uint w) v h e = cc
element_stands meant from s (sint w) v h e = cc
element_stands meant from s clock v h e = cc
element_stands meant from s reset v h e = cc
element_stands meant from s async_reset v h e = cc
element_stands meant from s (bundle fs) v h e = cc

-- a field of a bundle
flat_in_bundle : (s : Sized) (gs : Fields) → bare_type s ≡ bundle gs → (flat_fields (fields_in s) ≡ flat s) × (bare_type_fields (fields_in s) ≡ gs)
flat_in_bundle (scalar unsigned w) gs e = cc
flat_in_bundle (scalar signed w) gs e = cc
flat_in_bundle (scalar clock_scalar w) gs e = cc
flat_in_bundle (scalar reset_scalar w) gs e = cc
flat_in_bundle (scalar async_scalar w) gs e = cc
flat_in_bundle (sized_bundle fs) gs e = (refl, (cc))
flat_in_bundle (sized_vector u m) gs e = cc

fields_stand : (meant : List Width) (from : ℕ) (gs : SizedFields) (fs : Fields) (x : List ℕ) (f : FieldFound) → bare_type_fields gs ≡ bare_fields fs
    → Stands meant from (flat_fields gs) → field_named x fs ≡ Some f → Stands meant (from + shared_before_field x fs) (flat (sized_found (sized_named x gs)))
fields_stand meant from gs no_fields x f e h g = cc
fields_stand meant from no_sized_fields (field p flip y begins t rest) x f e h g = cc
fields_stand meant from (sized_field q turn z starts s more) (field p flip y begins t rest) x f e h g =
    by (bytes_eq y x) refl
    (fields_stand meant (from + length (flat s)) more rest x f (let d : bare_type_fields more ≡ bare_fields rest = cc in d) (stands_right meant from (flat s) (flat_fields more) h)) g
  where
    same : z ≡ y
    same = cc

    here : bare_type s ≡ bare t
    here = cc

    by : (b : Bool) → bytes_eq y x ≡ b
        → (field_named x rest ≡ Some f → Stands meant (from + length (flat s) + shared_before_field x rest) (flat (sized_found (sized_named x more))))
        → (if b then Some (record { flip = flip; data_type = t }) else field_named x rest) ≡ Some f
        → Stands meant (from + (if b then 0 else shared_count t + shared_before_field x rest))
        (flat (sized_found (if bytes_eq z x then Some s else sized_named x more)))
    by true i later k =
        let none : from + 0 ≡ from = omega arith in
        rw (same, i, none) (stands_left meant from (flat s) (flat_fields more) h)
    by false i later k =
        let count : length (flat s) ≡ shared_count t = flat_counted s t here in
        let sum : from + (shared_count t + shared_before_field x rest) ≡ from + length (flat s) + shared_before_field x rest = omega arith in
        rw (same, i, sum) (later k)

pub field_stands : (meant : List Width) (from : ℕ) (s : Sized) (t : DataType) (x : List ℕ) (f : FieldFound) → StandsAs meant from s t → field_of_type x t ≡ Some f
    → StandsAs meant (from + shared_before x t) (sized_found (sized_named x (fields_in s))) f.data_type
field_stands meant from s (bundle fs) x f h e =
    let parts = flat_in_bundle s (bare_fields fs) h.shape in
    record {
      shape = field_bare s (bundle fs) x f h.shape e;
      stands = fields_stand meant from (fields_in s) fs x f parts.1 (subst (Stands meant from) (sym parts.0) h.stands) e;
    }
field_stands meant from s (uint w) x f h e = cc
field_stands meant from s (sint w) x f h e = cc
field_stands meant from s clock x f h e = cc
field_stands meant from s reset x f h e = cc
field_stands meant from s async_reset x f h e = cc
field_stands meant from s (vector t n) x f h e = cc

-- what is reached behind parts
pub record ReachStands (meant : List Width) (first : ℕ) (range : LeafRange) (s : Sized) (r : Reached) : Type 0 where
  pub data_type : range.data_type ≡ r.data_type
  pub leaves : StandsAs meant (first + range.shared_offset) s r.data_type

field_reached : (meant : List Width) (first : ℕ) (range : LeafRange) (s : Sized) (r : Reached) (x : List ℕ) (f : FieldFound) → ReachStands meant first range s r
    → field_of_type x r.data_type ≡ Some f
    → ReachStands meant first (field_range x range (field_of_type x range.data_type)) (sized_found (sized_named x (fields_in s))) (at_field x r f)
field_reached meant first range s r x f h e =
    let is : field_of_type x range.data_type ≡ Some f = ap (field_of_type x) h.data_type ∙ e in
    let sum : first + (range.shared_offset + shared_before x r.data_type) ≡ first + range.shared_offset + shared_before x r.data_type = omega arith in
    rw is record {
      data_type = refl;
      leaves = rw (h.data_type, sum) (field_stands meant (first + range.shared_offset) s r.data_type x f h.leaves e);
    }

index_reached : (meant : List Width) (first : ℕ) (range : LeafRange) (s : Sized) (r : Reached) (i : ℕ) (v : DataType × ℕ) → ReachStands meant first range s r
    → vector_of_type r.data_type ≡ Some v → ReachStands meant first (element_range i range (vector_of_type range.data_type)) (element_in s) (at_element i r v.0)
index_reached meant first range s r i v h e =
    let is : vector_of_type range.data_type ≡ Some v = ap vector_of_type h.data_type ∙ e in
    rw is record { data_type = refl; leaves = element_stands meant (first + range.shared_offset) s r.data_type v h.leaves e }

access_reached : (meant : List Width) (first : ℕ) (range : LeafRange) (s : Sized) (r : Reached) (v : DataType × ℕ) → ReachStands meant first range s r
    → vector_of_type r.data_type ≡ Some v → ReachStands meant first (picked_range range (vector_of_type range.data_type)) (element_in s) (at_any r v)
access_reached meant first range s r v h e =
    let is : vector_of_type range.data_type ≡ Some v = ap vector_of_type h.data_type ∙ e in
    rw is record { data_type = refl; leaves = element_stands meant (first + range.shared_offset) s r.data_type v h.leaves e }

pub parts_reached : (meant : List Width) (typed : TypedScope) (first : ℕ) (range : LeafRange) (s : Sized) (b r : Reached) (ps : Parts) → ReachStands meant first range s b
    → Leads typed b ps r → ReachStands meant first (range_behind range ps) (sized_part s ps) r
parts_reached meant typed first range s b r no_parts h leads = rw leads h
parts_reached meant typed first range s b r (subfield start q x rest) h leads =
    parts_reached meant typed first (field_range x range (field_of_type x range.data_type)) (sized_found (sized_named x (fields_in s))) (at_field x b leads.0) r rest
    (field_reached meant first range s b x leads.0 h leads.1) leads.2
parts_reached meant typed first range s b r (subindex start q i rest) h leads =
    parts_reached meant typed first (element_range i range (vector_of_type range.data_type)) (element_in s) (at_element i b leads.0) r rest
    (index_reached meant first range s b i (leads.0, leads.1) h leads.2) leads.4
parts_reached meant typed first range s b r (subaccess start e rest) h leads =
    parts_reached meant typed first (picked_range range (vector_of_type range.data_type)) (element_in s) (at_any b (leads.1, leads.2)) r rest
    (access_reached meant first range s b (leads.1, leads.2) h leads.4) leads.5

-- a range keeps its declaration
field_declares : (x : List ℕ) (range : LeafRange) (o : Option FieldFound) → (field_range x range o).declaration ≡ range.declaration
field_declares x range None = refl
field_declares x range (Some f) = refl

element_declares : (i : ℕ) (range : LeafRange) (o : Option (DataType × ℕ)) → (element_range i range o).declaration ≡ range.declaration
element_declares i range None = refl
element_declares i range (Some v) = refl

picked_declares : (range : LeafRange) (o : Option (DataType × ℕ)) → (picked_range range o).declaration ≡ range.declaration
picked_declares range None = refl
picked_declares range (Some v) = refl

pub parts_declare : (range : LeafRange) (ps : Parts) → (range_behind range ps).declaration ≡ range.declaration
parts_declare range no_parts = refl
parts_declare range (subfield start q x rest) =
    parts_declare (field_range x range (field_of_type x range.data_type)) rest ∙ field_declares x range (field_of_type x range.data_type)
parts_declare range (subindex start q i rest) =
    parts_declare (element_range i range (vector_of_type range.data_type)) rest ∙ element_declares i range (vector_of_type range.data_type)
parts_declare range (subaccess start e rest) =
    parts_declare (picked_range range (vector_of_type range.data_type)) rest ∙ picked_declares range (vector_of_type range.data_type)

-- numbers below the number of all expressions are exact; where nothing stands, any number will do
pub stands_saturated : (meant es : List Width) (a o : ℕ) → length meant < 2 ^ 64 → Stands meant (a + o) es → Stands meant (saturated (a + saturated o)) es
stands_saturated meant es a o small h = record {
  each = λ i e is.
      let whole = h.each i e is in
      let below : a + o + i < length meant = stands_within meant (a + o) i es h (slice_get_within es i e is) in
      let same : saturated (a + saturated o) ≡ a + o = omega arith in
      ap (λ n. slice_get meant (n + i)) same ∙ whole;
}

-- so many stand, so the count of a type is exact
pub stands_counted : (meant es : List Width) (first : ℕ) → Stands meant first es → length es ≤ length meant
stands_counted meant [] first h = omega arith
stands_counted meant (e ∷ es) first h =
    let last : first + length es < length meant = stands_within meant first (length es) (e ∷ es) h (omega arith) in
    omega arith

pub count_exact : (ts : List DataType) (meant : List Width) (side : Side) (s : Sized) → length meant < 2 ^ 64 → IsSide ts meant side s
    → saturated (shared_count (found_type ts side.found)) ≡ length (flat s)
count_exact ts meant side s small h =
    let count = flat_counted s (found_type ts side.found) h.shape in
    let within = stands_counted meant (flat s) side.first h.stands in
    omega arith
