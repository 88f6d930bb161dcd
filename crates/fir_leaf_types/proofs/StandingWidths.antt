-- A type beside its sized type: of all that stands below vectors of length 0 the width is the one that is written, and resets have one bit.
use Rattle.std.proofs.Common.{◌≡◌, ℕ, zero, suc, ◌≤◌, List, Bool, true, false, ◌==◌, if◌then◌else◌, Option, Some, None, refl, subst, arith}
use Rattle.std.specs.Prelude.{unwrap_or}
use Rattle.std.specs.Str.{bytes_eq}
use Rattle.fir_ast.specs.Types.{DataType, uint, sint, clock, reset, async_reset, bundle, vector, Fields, no_fields, field}
use Rattle.fir_meaning.specs.SharedLeaves.{shared_count}
use Rattle.fir_meaning.specs.TypeKinds.{FieldFound, field_named}
use Rattle.fir_meaning.specs.WidthExpressions.{Widths, width_under}
use Rattle.fir_meaning.specs.SizedTypes.{Sized, SizedFields, unsigned, signed, clock_scalar, reset_scalar, async_scalar, scalar, sized_bundle, sized_vector, no_sized_fields, sized_field, past, numbered, numbered_fields, sized_named}
use Rattle.fir_meaning.specs.working.InferredTypes.{inferred, inferred_fields}
use Rattle.fir_leaf_types.proofs.HeldKinds.{not_zero}

module _ (w : Widths) where
  -- below a vector of length 0
  abbrev mutual
    pub Absent : DataType → Sized → Type 0
    Absent (uint a) (scalar unsigned e) = width_under e w ≤ 128 → unwrap_or a 0 ≡ width_under e w
    Absent (sint a) (scalar signed e) = width_under e w ≤ 128 → unwrap_or a 0 ≡ width_under e w
    Absent clock (scalar clock_scalar e) = Unit {0}
    Absent reset (scalar reset_scalar e) = width_under e w ≡ 1
    Absent async_reset (scalar async_scalar e) = width_under e w ≡ 1
    Absent (bundle fs) (sized_bundle gs) = FieldsAbsent fs gs
    Absent (vector t n) (sized_vector s m) = (n ≡ m) × Absent t s
    Absent _ _ = ⊥

    pub FieldsAbsent : Fields → SizedFields → Type 0
    FieldsAbsent no_fields no_sized_fields = Unit {0}
    FieldsAbsent (field p f x b t fs) (sized_field q g y c s gs) = (x ≡ y) × Absent t s × FieldsAbsent fs gs
    FieldsAbsent _ _ = ⊥

  abbrev mutual
    pub Present : DataType → Sized → Type 0
    Present (uint a) (scalar unsigned e) = Unit {0}
    Present (sint a) (scalar signed e) = Unit {0}
    Present clock (scalar clock_scalar e) = Unit {0}
    Present reset (scalar reset_scalar e) = width_under e w ≡ 1
    Present async_reset (scalar async_scalar e) = width_under e w ≡ 1
    Present (bundle fs) (sized_bundle gs) = FieldsPresent fs gs
    Present (vector t n) (sized_vector s m) = (n ≡ m) × (n ≡ 0 → Absent t s) × Present t s
    Present _ _ = ⊥

    pub FieldsPresent : Fields → SizedFields → Type 0
    FieldsPresent no_fields no_sized_fields = Unit {0}
    FieldsPresent (field p f x b t fs) (sized_field q g y c s gs) = (x ≡ y) × Present t s × FieldsPresent fs gs
    FieldsPresent _ _ = ⊥

-- a type as it is written, with numbers or without
module _ (w : Widths) where
  either_way : (b : Bool) (t : DataType) → Absent w t (numbered None t) → Absent w t (numbered (if b then None else None) t)
  either_way true t h = h
  either_way false t h = h

  mutual
    written_absent : (t : DataType) → Absent w t (numbered None t)
    written_absent (uint None) = λ h. refl
    written_absent (uint (Some n)) = λ h. omega (arith, h)
    written_absent (sint None) = λ h. refl
    written_absent (sint (Some n)) = λ h. omega (arith, h)
    written_absent clock = tt
    written_absent reset = refl
    written_absent async_reset = refl
    written_absent (bundle fs) = written_fields_absent fs
    written_absent (vector t n) = (refl, either_way (n == 0) t (written_absent t))

    written_fields_absent : (fs : Fields) → FieldsAbsent w fs (numbered_fields None fs)
    written_fields_absent no_fields = tt
    written_fields_absent (field p f x b t fs) = (refl, written_absent t, written_fields_absent fs)

  -- below a vector, of length 0 or not
  elements_present : (at : Option ℕ) (t : DataType) (n : ℕ) → Present w t (numbered None t) → Present w t (numbered at t)
      → Present w (vector t n) (numbered at (vector t n))
  elements_present at t zero none some = (refl, λ e. written_absent t, none)
  elements_present at t (suc n) none some = rw (not_zero n) (refl, λ e. absurd (omega (arith, e)), some)

  mutual
    pub written_present : (at : Option ℕ) (t : DataType) → Present w t (numbered at t)
    written_present at (uint a) = tt
    written_present at (sint a) = tt
    written_present at clock = tt
    written_present at reset = refl
    written_present at async_reset = refl
    written_present at (bundle fs) = written_fields_present at fs
    written_present at (vector t n) = elements_present at t n (written_present None t) (written_present at t)

    written_fields_present : (at : Option ℕ) (fs : Fields) → FieldsPresent w fs (numbered_fields at fs)
    written_fields_present at no_fields = tt
    written_fields_present at (field p f x b t fs) = (refl, written_present at t, written_fields_present (past (shared_count t) at) fs)

  -- the type of a node, whose own unknowns have no widths written
  inferred_elements : (at : Option ℕ) (t : DataType) (n : ℕ) → Present w t (numbered at (inferred t))
      → Present w (vector t n) (numbered at (inferred (vector t n)))
  inferred_elements at t zero some = (refl, λ e. written_absent t, written_present None t)
  inferred_elements at t (suc n) some = rw (not_zero n) (refl, λ e. absurd (omega (arith, e)), some)

  mutual
    pub inferred_present : (at : Option ℕ) (t : DataType) → Present w t (numbered at (inferred t))
    inferred_present at (uint a) = tt
    inferred_present at (sint a) = tt
    inferred_present at clock = tt
    inferred_present at reset = refl
    inferred_present at async_reset = refl
    inferred_present at (bundle fs) = inferred_fields_present at fs
    inferred_present at (vector t n) = inferred_elements at t n (inferred_present at t)

    inferred_fields_present : (at : Option ℕ) (fs : Fields) → FieldsPresent w fs (numbered_fields at (inferred_fields fs))
    inferred_fields_present at no_fields = tt
    inferred_fields_present at (field p f x b t fs) =
        (refl, inferred_present at t, inferred_fields_present (past (shared_count (inferred t)) at) fs)

  -- the type of a field
  pub field_present : (fs : Fields) (gs : SizedFields) (x : List ℕ) (f : FieldFound) → FieldsPresent w fs gs → field_named x fs ≡ Some f
      → (s : Sized) × (sized_named x gs ≡ Some s) × Present w f.data_type s
  field_present no_fields gs x f h e = absurd (cc)
  field_present (field p turn y b t fs) no_sized_fields x f h e = absurd h
  field_present (field p turn y b t fs) (sized_field q g z c s gs) x f h e = by (bytes_eq y x) refl e (field_present fs gs x f h.2)
    where
      by : (v : Bool) → bytes_eq y x ≡ v → (if v then Some (record { flip = turn; data_type = t }) else field_named x fs) ≡ Some f
          → (field_named x fs ≡ Some f → (s : Sized) × (sized_named x gs ≡ Some s) × Present w f.data_type s)
          → (u : Sized) × ((if bytes_eq z x then Some s else sized_named x gs) ≡ Some u) × Present w f.data_type u
      by true g i later =
          let is : record { flip = turn; data_type = t } ≡ f = cc in
          rw (← h.0, g) (s, refl, subst (λ (y : FieldFound). Present w y.data_type s) is h.1)
      by false g i later = let r = later i in rw (← h.0, g) (r.0, r.1, r.2)

  pub field_absent : (fs : Fields) (gs : SizedFields) (x : List ℕ) (f : FieldFound) → FieldsAbsent w fs gs → field_named x fs ≡ Some f
      → (s : Sized) → sized_named x gs ≡ Some s → Absent w f.data_type s
  field_absent no_fields gs x f h e u k = absurd (cc)
  field_absent (field p turn y b t fs) no_sized_fields x f h e u k = absurd h
  field_absent (field p turn y b t fs) (sized_field q g z c s gs) x f h e u k = by (bytes_eq y x) refl e (rw (← h.0) at k) (field_absent fs gs x f h.2)
    where
      by : (v : Bool) → bytes_eq y x ≡ v → (if v then Some (record { flip = turn; data_type = t }) else field_named x fs) ≡ Some f
          → (if bytes_eq y x then Some s else sized_named x gs) ≡ Some u
          → (field_named x fs ≡ Some f → (s : Sized) → sized_named x gs ≡ Some s → Absent w f.data_type s) → Absent w f.data_type u
      by true g i j later =
          let is : record { flip = turn; data_type = t } ≡ f = cc in
          let found : Some s ≡ Some u = rw g at j in
          let same : s ≡ u = cc in
          subst (λ (y : FieldFound). Absent w y.data_type u) is (subst (Absent w t) same h.1)
      by false g i j later = later i u (rw g at j)
