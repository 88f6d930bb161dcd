-- Where what a field or an element holds stands among what its type holds.
use Rattle.std.proofs.Common.{◌≡◌, ℕ, zero, suc, ◌+◌, ◌*◌, ◌<◌, List, ◌++◌, Bool, true, false, length, slice_get, refl, ap, ◌∙◌, arith, length-append, Some, if◌then◌else◌}
use Rattle.std.specs.Str.{bytes_eq}
use Rattle.std.proofs.Math.Nat.{suc-mul}
use Rattle.fir_ast.specs.Types.{DataType, uint, sint, clock, reset, async_reset, bundle, vector, Fields, no_fields, field}
use Rattle.fir_meaning.specs.TypeKinds.{bare, bare_fields}
use Rattle.fir_meaning.specs.TypeLeaves.{leaf_count, field_count}
use Rattle.fir_meaning.specs.working.FieldSizes.{leaves_before, leaves_before_field}
use Rattle.fir_meaning.specs.WidthExpressions.{Widths}
use Rattle.fir_meaning.specs.SizedTypes.{Sized, SizedFields, unsigned, signed, clock_scalar, reset_scalar, async_scalar, scalar, sized_bundle, sized_vector, no_sized_fields, sized_field, bare_type, bare_type_fields, sized_named}
use Rattle.fir_meaning.specs.LeafTypes.{LeafType}
use Rattle.fir_meaning.specs.HeldTypes.{repeated, held_types, held_field_types}
use Rattle.fir_leaf.proofs.LeafPlaces.{get_left, get_right}

pub repeated_counted : {A : Type 0} → (n : ℕ) (xs : List A) → length (repeated n xs) ≡ n * length xs
repeated_counted zero xs = omega arith
repeated_counted (suc n) xs = omega (arith, length-append xs (repeated n xs), suc-mul n (length xs), repeated_counted n xs)

-- a type for each leaf
mutual
  held_counted : (w : Widths) (s : Sized) → length (held_types w s) ≡ leaf_count (bare_type s)
  held_counted w (scalar unsigned e) = refl
  held_counted w (scalar signed e) = refl
  held_counted w (scalar clock_scalar e) = refl
  held_counted w (scalar reset_scalar e) = refl
  held_counted w (scalar async_scalar e) = refl
  held_counted w (sized_bundle fs) = held_fields_counted w fs
  held_counted w (sized_vector t n) = repeated_counted n (held_types w t) ∙ ap (λ k. n * k) (held_counted w t)

  held_fields_counted : (w : Widths) (fs : SizedFields) → length (held_field_types w fs) ≡ field_count (bare_type_fields fs)
  held_fields_counted w no_sized_fields = refl
  held_fields_counted w (sized_field p flip x begins t rest) =
      omega (arith, length-append (held_types w t) (held_field_types w rest), held_counted w t, held_fields_counted w rest)

mutual
  pub bare_counted : (t : DataType) → leaf_count (bare t) ≡ leaf_count t
  bare_counted (uint w) = refl
  bare_counted (sint w) = refl
  bare_counted clock = refl
  bare_counted reset = refl
  bare_counted async_reset = refl
  bare_counted (bundle fs) = bare_fields_counted fs
  bare_counted (vector t n) = ap (λ k. n * k) (bare_counted t)

  bare_fields_counted : (fs : Fields) → field_count (bare_fields fs) ≡ field_count fs
  bare_fields_counted no_fields = refl
  bare_fields_counted (field p flip x begins t rest) = rw (bare_counted t, bare_fields_counted rest) refl

pub counted_by_type : (w : Widths) (s : Sized) (t : DataType) → bare_type s ≡ bare t → length (held_types w s) ≡ leaf_count t
counted_by_type w s t e = held_counted w s ∙ ap leaf_count e ∙ bare_counted t

-- how many stand before a field does not hang on widths
before_bare_field : (x : List ℕ) (fs : Fields) → leaves_before_field x (bare_fields fs) ≡ leaves_before_field x fs
before_bare_field x no_fields = refl
before_bare_field x (field p flip y begins t rest) =
    ap (λ n. if bytes_eq y x then 0 else n) (rw (bare_counted t, before_bare_field x rest) refl)

pub before_bare : (x : List ℕ) (t : DataType) → leaves_before x (bare t) ≡ leaves_before x t
before_bare x (uint w) = refl
before_bare x (sint w) = refl
before_bare x clock = refl
before_bare x reset = refl
before_bare x async_reset = refl
before_bare x (bundle fs) = before_bare_field x fs
before_bare x (vector t n) = refl

-- of a field
pub held_by_field : (w : Widths) (fs : SizedFields) (x : List ℕ) (s : Sized) → sized_named x fs ≡ Some s → (k : ℕ) (h : LeafType)
    → slice_get (held_types w s) k ≡ Some h → slice_get (held_field_types w fs) (leaves_before_field x (bare_type_fields fs) + k) ≡ Some h
held_by_field w no_sized_fields x s e k h there = absurd (cc)
held_by_field w (sized_field p flip y begins t rest) x s e k h there = by (bytes_eq y x) refl e (λ f. held_by_field w rest x s f k h there)
  where
    by : (b : Bool) → bytes_eq y x ≡ b → (if b then Some t else sized_named x rest) ≡ Some s
        → (sized_named x rest ≡ Some s → slice_get (held_field_types w rest) (leaves_before_field x (bare_type_fields rest) + k) ≡ Some h)
        → slice_get (held_types w t ++ held_field_types w rest)
        ((if b then 0 else leaf_count (bare_type t) + leaves_before_field x (bare_type_fields rest)) + k)
        ≡ Some h
    by true g f later =
        let is : s ≡ t = cc in
        let none : 0 + k ≡ k = omega arith in
        let mine : slice_get (held_types w t) k ≡ Some h = rw is at there in
        rw none (get_left (held_types w t) (held_field_types w rest) k h mine)
    by false g f later =
        let n = leaf_count (bare_type t) in
        let more = leaves_before_field x (bare_type_fields rest) in
        let far : (n + more) + k ≡ n + (more + k) = omega arith in
        rw far (get_right (held_types w t) (held_field_types w rest) n (more + k) (held_counted w t) ∙ later f)

-- of an element
pub held_by_element : {A : Type 0} → (n i : ℕ) (xs : List A) (c k : ℕ) (x : A) → length xs ≡ c → i < n → slice_get xs k ≡ Some x
    → slice_get (repeated n xs) (i * c + k) ≡ Some x
held_by_element zero i xs c k x long lt e = absurd (omega arith)
held_by_element (suc n) zero xs c k x long lt e = let none : 0 * c + k ≡ k = omega arith in rw none (get_left xs (repeated n xs) k x e)
held_by_element (suc n) (suc i) xs c k x long lt e =
    let far : suc i * c + k ≡ c + (i * c + k) = omega (arith, suc-mul i c) in
    rw far (get_right xs (repeated n xs) c (i * c + k) long ∙ held_by_element n i xs c k x long (omega arith) e)
