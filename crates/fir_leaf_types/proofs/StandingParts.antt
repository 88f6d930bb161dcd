-- A part of a type beside that of its sized type: a field, an element.
use Rattle.std.proofs.Common.{◌≡◌, ℕ, ◌+◌, ◌*◌, ◌<◌, List, Option, Some, slice_get, sym, ap, ◌∙◌, subst, arith}
use Rattle.fir_ast.specs.Types.{DataType, bundle, vector}
use Rattle.fir_meaning.specs.working.FieldSizes.{leaves_before, leaves_before_field}
use Rattle.fir_meaning.specs.Reaching.{field_of_type, vector_of_type}
use Rattle.fir_meaning.specs.TypeKinds.{bare, FieldFound}
use Rattle.fir_meaning.specs.TypeLeaves.{leaf_count}
use Rattle.fir_meaning.specs.WidthExpressions.{Widths}
use Rattle.fir_meaning.specs.SizedTypes.{Sized, scalar, sized_bundle, sized_vector, bare_type, bare_type_fields, sized_named, sized_found, fields_in, element_in}
use Rattle.fir_meaning.proofs.SizedShapes.{field_bare, element_bare}
use Rattle.fir_meaning.specs.LeafTypes.{LeafType}
use Rattle.fir_meaning.specs.HeldTypes.{held_types, held_field_types}
use Rattle.fir_leaf_types.proofs.HeldPlaces.{counted_by_type, before_bare, held_by_field, held_by_element}
use Rattle.fir_leaf_types.proofs.StandingWidths.{Present, Absent, field_present, field_absent}

module _ (w : Widths) where
  -- what it holds stands in a row
  pub record IsPart (t : DataType) (s : Sized) (first : ℕ) (u : DataType) (v : Sized) : Type 0 where
    pub within : (k : ℕ) (h : LeafType) → slice_get (held_types w v) k ≡ Some h → slice_get (held_types w s) (first + k) ≡ Some h
    pub shape : bare_type v ≡ bare u
    pub present : Present w u v
    pub absent : Absent w t s → Absent w u v

  pub field_part : (t : DataType) (s : Sized) (x : List ℕ) (f : FieldFound) → field_of_type x t ≡ Some f → bare_type s ≡ bare t → Present w t s
      → IsPart t s (leaves_before x t) f.data_type (sized_found (sized_named x (fields_in s)))
  field_part (bundle fs) (sized_bundle gs) x f e shape h = by (field_present w fs gs x f h e)
    where
      by : (r : (u : Sized) × (sized_named x gs ≡ Some u) × Present w f.data_type u)
          → IsPart (bundle fs) (sized_bundle gs) (leaves_before x (bundle fs)) f.data_type (sized_found (sized_named x gs))
      by r = record {
        within = λ k h there.
            let mine : slice_get (held_types w r.0) k ≡ Some h = subst (λ (o : Option Sized). slice_get (held_types w (sized_found o)) k ≡ Some h) r.1 there in
            let first : leaves_before_field x (bare_type_fields gs) ≡ leaves_before_field x fs =
            ap (leaves_before x) shape ∙ before_bare x (bundle fs) in
            ap (λ n. slice_get (held_field_types w gs) (n + k)) (sym first) ∙ held_by_field w gs x r.0 r.1 k h mine;
        shape = field_bare (sized_bundle gs) (bundle fs) x f shape e;
        present = rw r.1 r.2;
        absent = λ a. rw r.1 (field_absent w fs gs x f a e r.0 r.1);
      }
  field_part (bundle fs) (scalar k v) x f e shape h = absurd h
  field_part (bundle fs) (sized_vector v n) x f e shape h = absurd h
  field_part t s x f e shape h = absurd (cc)

  pub element_part : (t : DataType) (s : Sized) (u : DataType) (n i : ℕ) → vector_of_type t ≡ Some (u, n) → i < n → bare_type s ≡ bare t → Present w t s
      → IsPart t s (i * leaf_count u) u (element_in s)
  element_part (vector t m) (sized_vector v k) u n i e lt shape h =
      let same : ◌≡◌ {A = DataType × ℕ} (t, m) (u, n) = cc in
      let is : t ≡ u = ap (λ (v : DataType × ℕ). v.0) same in
      let long : m ≡ n = ap (λ (v : DataType × ℕ). v.1) same in
      let less : i < k = omega (arith, long, h.0) in
      let bare_is : bare_type v ≡ bare u = element_bare (sized_vector v k) (vector t m) (u, n) shape e in
      record {
        within = λ j x there. held_by_element k i (held_types w v) (leaf_count u) j x (counted_by_type w v u bare_is) less there;
        shape = bare_is;
        present = subst (λ y. Present w y v) is h.2;
        absent = λ a. subst (λ y. Absent w y v) is a.1;
      }
  element_part (vector t m) (scalar k v) u n i e lt shape h = absurd h
  element_part (vector t m) (sized_bundle gs) u n i e lt shape h = absurd h
  element_part t s u n i e lt shape h = absurd (cc)

  -- of an element of a vector, whether it has any or not
  pub any_element : (t : DataType) (s : Sized) (u : DataType) (n : ℕ) → vector_of_type t ≡ Some (u, n) → bare_type s ≡ bare t → Present w t s
      → (bare_type (element_in s) ≡ bare u) × Present w u (element_in s) × (n ≡ 0 → Absent w u (element_in s))
  any_element (vector t m) (sized_vector v k) u n e shape h =
      let same : ◌≡◌ {A = DataType × ℕ} (t, m) (u, n) = cc in
      let is : t ≡ u = ap (λ (v : DataType × ℕ). v.0) same in
      let long : m ≡ n = ap (λ (v : DataType × ℕ). v.1) same in (
        element_bare (sized_vector v k) (vector t m) (u, n) shape e,
        subst (λ y. Present w y v) is h.2,
        λ none. subst (λ y. Absent w y v) is (h.1 (long ∙ none)),
      )
  any_element (vector t m) (scalar k v) u n e shape h = absurd h
  any_element (vector t m) (sized_bundle gs) u n e shape h = absurd h
  any_element t s u n e shape h = absurd (cc)
