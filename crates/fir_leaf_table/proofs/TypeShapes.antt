-- A sized type is of the shape of its type, and holds as many types as that has leaves.
use Rattle.std.proofs.Common.{◌≡◌, ℕ, zero, suc, ◌*◌, List, [], ◌∷◌, ◌++◌, length, map, true, refl, ap, ◌∙◌, subst, arith, length-append}
use Rattle.std.proofs.lemmas.List.{map-append}
use Rattle.std.proofs.Math.Nat.{suc-mul}
use Rattle.fir_ast.specs.Types.{DataType, uint, sint, clock, reset, async_reset, bundle, vector, Fields, no_fields, field}
use Rattle.fir_meaning.specs.SizedTypes.{unsigned, signed, clock_scalar, reset_scalar, async_scalar, Sized, scalar, sized_bundle, sized_vector, SizedFields, no_sized_fields, sized_field, bare_type, bare_type_fields}
use Rattle.fir_meaning.specs.TypeKinds.{bare}
use Rattle.fir_meaning.specs.TypeLeaves.{leaf_count, field_count}
use Rattle.fir_meaning.specs.WidthExpressions.{Width, Widths}
use Rattle.fir_types.proofs.BareTypes.{shown_leaf_count}
use Rattle.fir_meaning.specs.HeldTypes.{held_field_types, held_types, repeated}

-- what a sized type is, by the type without widths that it has
abbrev pub HasShape : DataType → Sized → Type 0
HasShape (uint w) s = (e : Width) × (s ≡ scalar unsigned e)
HasShape (sint w) s = (e : Width) × (s ≡ scalar signed e)
HasShape clock s = (e : Width) × (s ≡ scalar clock_scalar e)
HasShape reset s = (e : Width) × (s ≡ scalar reset_scalar e)
HasShape async_reset s = (e : Width) × (s ≡ scalar async_scalar e)
HasShape (bundle fs) s = (ss : SizedFields) × (s ≡ sized_bundle ss) × (bare_type_fields ss ≡ fs)
HasShape (vector t n) s = (u : Sized) × (s ≡ sized_vector u n) × (bare_type u ≡ t)

own_shape : (s : Sized) → HasShape (bare_type s) s
own_shape (scalar unsigned e) = (e, refl)
own_shape (scalar signed e) = (e, refl)
own_shape (scalar clock_scalar e) = (e, refl)
own_shape (scalar reset_scalar e) = (e, refl)
own_shape (scalar async_scalar e) = (e, refl)
own_shape (sized_bundle ss) = (ss, refl, refl)
own_shape (sized_vector u n) = (u, refl, refl)

pub has_shape : (t : DataType) (s : Sized) → bare_type s ≡ t → HasShape t s
has_shape t s e = subst (λ u. HasShape u s) e (own_shape s)

-- field by field
abbrev pub HaveShape : Fields → SizedFields → Type 0
HaveShape no_fields ss = ss ≡ no_sized_fields
HaveShape (field p flip x begins t fs) ss =
    (u : Sized) × (rest : SizedFields) × (ss ≡ sized_field p flip x begins u rest) × (bare_type u ≡ t) × (bare_type_fields rest ≡ fs)

own_shapes : (ss : SizedFields) → HaveShape (bare_type_fields ss) ss
own_shapes no_sized_fields = refl
own_shapes (sized_field p flip x begins u rest) = (u, rest, refl, refl, refl)

pub have_shape : (fs : Fields) (ss : SizedFields) → bare_type_fields ss ≡ fs → HaveShape fs ss
have_shape fs ss e = subst (λ gs. HaveShape gs ss) e (own_shapes ss)

-- so often the same list
pub map_repeated : {A B : Type 0} → (f : A → B) (n : ℕ) (xs : List A) → map f (repeated n xs) ≡ repeated n (map f xs)
map_repeated f zero xs = refl
map_repeated f (suc n) xs = map-append f xs (repeated n xs) ∙ ap (λ ys. map f xs ++ ys) (map_repeated f n xs)

repeated_long : {A : Type 0} → (n : ℕ) (xs : List A) → length (repeated n xs) ≡ n * length xs
repeated_long zero xs = omega arith
repeated_long (suc n) xs = omega (arith, length-append xs (repeated n xs), suc-mul n (length xs), repeated_long n xs)

mutual
  held_long : (w : Widths) (s : Sized) → length (held_types w s) ≡ leaf_count (bare_type s)
  held_long w (scalar unsigned e) = refl
  held_long w (scalar signed e) = refl
  held_long w (scalar clock_scalar e) = refl
  held_long w (scalar reset_scalar e) = refl
  held_long w (scalar async_scalar e) = refl
  held_long w (sized_bundle ss) = held_fields_long w ss
  held_long w (sized_vector u n) = repeated_long n (held_types w u) ∙ ap (λ k. n * k) (held_long w u)

  held_fields_long : (w : Widths) (ss : SizedFields) → length (held_field_types w ss) ≡ field_count (bare_type_fields ss)
  held_fields_long w no_sized_fields = refl
  held_fields_long w (sized_field p flip x begins u rest) =
      omega (arith, length-append (held_types w u) (held_field_types w rest), held_long w u, held_fields_long w rest)

pub empty_list : {A : Type 0} → (xs : List A) → length xs ≡ 0 → xs ≡ []
empty_list [] e = refl
empty_list (x ∷ xs) e = absurd (omega arith)

pub held_none : (w : Widths) (t : DataType) (s : Sized) → leaf_count t ≡ 0 → bare_type s ≡ bare t → held_types w s ≡ []
held_none w t s none shape = empty_list (held_types w s) (held_long w s ∙ ap leaf_count shape ∙ shown_leaf_count true t ∙ none)
